-- What a table holds.
use Rattle.std.specs.Prelude.{ℕ, refl}
use Rattle.std.specs.Coded.{Coded, code_by, coded×, coded_ℕ}
use Rattle.std.specs.Ordering.{nat_cmp}
use Rattle.std.specs.FinMap as map
use Rattle.intern_store.specs.Kept.{Kept, kept_code}

-- what is kept under each birth, how values are hashed, how many more entries are taken with no
-- request for memory, and how much that lies outside of these
pub record Tabled (V B : Type 0) : Type 0 where
  pub entries : map.FinMap nat_cmp (Kept V)
  pub hasher : B
  pub room : ℕ
  pub spare : ℕ

abbrev pub tabled_code : {V B : Type 0} → Coded V → Coded B → Coded (Tabled V B)
tabled_code {V} {B} v b =
    code_by (map.FinMap nat_cmp (Kept V) × (B × (ℕ × ℕ)))
    (coded× (map.code coded_ℕ (kept_code v)) (coded× b (coded× coded_ℕ coded_ℕ)))
    (λ t. (t.entries, (t.hasher, (t.room, t.spare))))
    (λ p. record { entries = p.0; hasher = p.1.0; room = p.1.1.0; spare = p.1.1.1 }) (λ _. refl)
