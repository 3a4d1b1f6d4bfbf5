-- What is learnt of a family, as its entries are registered one after another.
use Rattle.std.proofs.Common.{◌≡◌, ℕ, ◌+◌, Bool, true, false, cond, ◌&&◌, ◌==◌, nat_eq, List, [], ◌∷◌, ◌++◌, length, length-append, Option, None, is_some, refl, sym, ap, ◌∙◌, subst, arith}
use Rattle.std.specs.FinMap.{get, empty, get-empty, len, len-insert, len-empty, same_map}
use Rattle.std.specs.List.{IsDistinct, AllByRecursion}
use Rattle.std.specs.Map.{keys_of, lookup}
use Rattle.std.specs.Option.{option_map, option_or}
use Rattle.std.proofs.lemmas.Bool.{eq-eqb}
use Rattle.std.proofs.lemmas.List.{map-append}
use Rattle.std.proofs.lemmas.Map.Keys.{IsDistinct-head, IsDistinct-tail}
use Rattle.std.proofs.lemmas.Bool.Decides.{nat_tests}
use Rattle.intern_marks.specs.Learning.{Learns, known}
use Rattle.intern_marks.specs.Marks.{Marks, fresh, added}
use Rattle.intern_marks.specs.Names.{has, name_cmp}
use Rattle.intern_marks.specs.Reach.{Entry, entry_of, is_entry, is_counted}
use Rattle.intern_marks.specs.Trace.{counted_in}
use Rattle.intern_marks.proofs.Names.{has_head, name_cmp_total, name_cmp-IsAntisymmetric, get-inserted}
use Rattle.intern_marks.proofs.Sound.{sound_added}
use Rattle.intern_marks.proofs.Steps.{grown_has}
use Rattle.intern_store.specs.declared.names.Name.{Name}
use Rattle.ra_ap_intern.specs.Families.{counted_entries}
use Rattle.ra_ap_intern.specs.PairLaws.{entry_either}

abbrev as_counted : Option Entry → Option Bool
as_counted o = option_map (λ (e : Entry). is_counted e.count) o

-- nothing is learnt of no entries
pub learns_none : (roots : Bool) (m : Marks) → Learns roots [] m m
learns_none roots m = record {
  registered = λ x. refl;
  size = omega arith;
  marked = λ x. grind arith;
  sound = λ sound. sound;
  visits = refl;
  calls = refl;
}

-- an entry is added, whose name isn't registered
pub learns_one : (roots : Bool) (m : Marks) (e : Entry) → get m.registered e.name ≡ None
    → Learns roots (e ∷ []) m (added m e.name (is_counted e.count) (roots && is_counted e.count))
learns_one roots m e new = record {
  registered = λ x. grind (arith, get-inserted m.registered e.name (is_counted e.count) x);
  size =
      let longer = len-insert name_cmp_total m.registered e.name (is_counted e.count)
      ∙ ap (λ o. cond (is_some o) (len m.registered) (len m.registered + 1)) new in
      longer;
  marked = λ x. grind (arith, grown_has (roots && is_counted e.count) m.marked e.name x);
  sound = sound_added m.registered m.marked e.name (is_counted e.count) (roots && is_counted e.count) new;
  visits = refl;
  calls = refl;
}

-- one family after another, which have no entry in common
module _ (roots : Bool) (xs ys : List Entry) (apart : (x : Name) → is_entry ys x ≡ true → entry_of xs x ≡ None) where
  pub learns_both : (old mid new : Marks) → Learns roots xs old mid → Learns roots ys mid new → Learns roots (xs ++ ys) old new
  learns_both old mid new first second = record {
    registered = λ x. grind (arith, second.registered x, first.registered x, apart x, entry_either xs ys x);
    size = let one = first.size in let two = second.size in let both = length-append xs ys in omega arith;
    marked = λ x. grind (arith, second.marked x, first.marked x, apart x, entry_either xs ys x);
    sound = λ sound. second.sound (first.sound sound);
    visits = second.visits ∙ first.visits;
    calls = second.calls ∙ first.calls;
  }

-- nothing is told of a family but the names and what is counted
pub learns_same : (roots : Bool) (xs ys : List Entry) (old new : Marks) → ((x : Name) → counted_in xs x ≡ counted_in ys x) → length xs ≡ length ys
    → Learns roots xs old new → Learns roots ys old new
learns_same roots xs ys old new same many is = record {
  registered = λ x. is.registered x ∙ ap (λ o. option_or o (get old.registered x)) (same x);
  size = is.size ∙ ap (λ n. len old.registered + n) many;
  marked = λ x. grind (arith, is.marked x, same x);
  sound = is.sound;
  visits = is.visits;
  calls = is.calls;
}

-- ---- what a registration leaves

known_gets : (family : List Entry) (x : Name) → get (known family) x ≡ counted_in family x
unfolding known
known_gets [] x = get-empty name_cmp x
known_gets (e ∷ family) x = grind (arith, get-inserted (known family) e.name (is_counted e.count) x, known_gets family x)

none_marked : (names : List Name) → ((x : Name) → has names x ≡ false) → names ≡ []
none_marked [] none = refl
none_marked (n ∷ names) none = let head = has_head n names in let no = none n in absurd (cc)

pub learnt_alone : (family : List Entry) (m : Marks) → Learns false family (fresh empty) m → m ≡ fresh (known family)
learnt_alone family m is = λ i. record {
  registered = same_map name_cmp_total name_cmp-IsAntisymmetric m.registered (known family) (λ x.
      grind (arith, is.registered x, get-empty {X = Bool} name_cmp x, known_gets family x)) i;
  marked = none_marked m.marked is.marked i;
  visits = is.visits i;
  calls = is.calls i;
}

pub learnt_size : (roots : Bool) (family : List Entry) (m : Marks) → Learns roots family (fresh empty) m → len m.registered ≡ length family
learnt_size roots family m is = let size = is.size in let none = len-empty name_cmp Bool in omega arith

-- ---- the entries of a list of counts

-- what holds of each key of a list holds of one among them
among : {X : Type 0} (P : ℕ → Type 0) (xs rest : List (ℕ × X)) (e : ℕ × X) → AllByRecursion P (keys_of (xs ++ e ∷ rest)) → P e.0
among P [] rest e all = all.0
among P (x ∷ xs) rest e all = among P xs rest e all.1

-- a key is not among those before it, where keys differ
pub not_before : {X : Type 0} (q : ℕ) (xs rest : List (ℕ × X)) (e : ℕ × X) → IsDistinct nat_eq (keys_of (xs ++ e ∷ rest)) → nat_eq q e.0 ≡ true → lookup (nat_eq q) xs ≡ None
not_before q [] rest e distinct same = refl
not_before q (x ∷ xs) rest e distinct same =
    let apart = among (λ k. nat_eq x.0 k ≡ false) xs rest e (IsDistinct-head nat_eq x.0 (keys_of (xs ++ e ∷ rest)) distinct) in
    let later = not_before q xs rest e (IsDistinct-tail nat_eq x.0 (keys_of (xs ++ e ∷ rest)) distinct) same in
    grind (arith, nat_tests, apart, later)

-- of a name of the storage, whether it is counted is told by the count of its birth
pub counts_told : (number : ℕ) (counts : List (ℕ × ℕ)) (x : Name)
    → counted_in (counted_entries number counts) x ≡ cond (x.storage == number) (option_map is_counted (lookup (nat_eq x.birth) counts)) None
counts_told number [] x = grind arith
counts_told number (c ∷ counts) x = grind (arith, counts_told number counts x)

-- no entry before has the name of the next
pub none_before : (number : ℕ) (past rest : List (ℕ × ℕ)) (e : ℕ × ℕ) → IsDistinct nat_eq (keys_of (past ++ e ∷ rest)) → (x : Name) → nat_eq x.birth e.0 ≡ true
    → entry_of (counted_entries number past) x ≡ None
none_before number past rest e distinct x same =
    grind (arith, counts_told number past x, not_before x.birth past rest e distinct same)

module _ (roots : Bool) (number : ℕ) (past rest : List (ℕ × ℕ)) (e : ℕ × ℕ) (distinct : IsDistinct nat_eq (keys_of (past ++ e ∷ rest)))
    (old mid : Marks) (learnt : Learns roots (counted_entries number past) old mid) where
  abbrev next : Entry
  next = record { name = record { storage = number; birth = e.0 }; count = e.1; children = [] }

  -- the next name isn't registered, where only the past ones are
  pub next_is_new : get old.registered next.name ≡ None → get mid.registered next.name ≡ None
  next_is_new new =
      grind (arith, learnt.registered next.name, none_before number past rest e distinct next.name (eq-eqb e.0 e.0 refl))

  apart : (x : Name) → is_entry (next ∷ []) x ≡ true → entry_of (counted_entries number past) x ≡ None
  apart x there = none_before number past rest e distinct x (grind arith)

  -- and is learnt with the past ones, once it is added
  pub next_learnt : get mid.registered next.name ≡ None
      → Learns roots (counted_entries number (past ++ e ∷ [])) old (added mid next.name (is_counted e.1) (roots && is_counted e.1))
  next_learnt new =
      subst (λ es. Learns roots es old (added mid next.name (is_counted e.1) (roots && is_counted e.1)))
      (sym (map-append (λ (c : ℕ × ℕ). record { name = record { storage = number; birth = c.0 }; count = c.1; children = [] }) past (e ∷ [])))
      (learns_both roots (counted_entries number past) (next ∷ []) apart old mid _ learnt (learns_one roots mid next new))
