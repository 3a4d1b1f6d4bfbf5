-- Names are told apart.
use Rattle.std.proofs.Common.{◌≡◌, true, arith}
use Rattle.std.proofs.lemmas.Bool.Decides.{nat_tests}
use Rattle.intern_store.specs.Named.{same_name}
use Rattle.intern_store.specs.declared.names.Name.{Name}

pub names_same : (x y : Name) → same_name x y ≡ true → x ≡ y
names_same x y is =
    let storages : x.storage ≡ y.storage = grind (arith, nat_tests) in
    let births : x.birth ≡ y.birth = grind (arith, nat_tests) in
    λ i. record { storage = storages i; birth = births i }

pub same_names : (x y : Name) → x ≡ y → same_name x y ≡ true
same_names x y is = grind (arith, nat_tests)
