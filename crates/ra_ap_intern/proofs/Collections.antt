-- What a collection leaves.
use Rattle.std.proofs.Common.{◌≡◌, ℕ, ◌+◌, Bool, true, cond, ◌==◌, List, [], ◌∷◌, length, None, sym, ◌∙◌, ap, subst, arith}
use Rattle.std.proofs.lemmas.Bool.{eqb-true}
use Rattle.std.specs.List.{filter}
use Rattle.std.specs.Option.{option_map}
use Rattle.std.proofs.lemmas.Bool.Decides.{nat_tests}
use Rattle.intern_store.proofs.Named.{names_same}
use Rattle.intern_store.specs.Kept.{Kept}
use Rattle.intern_store.specs.State.{State, entry_at, name_in}
use Rattle.intern_store.specs.declared.names.Name.{Name}
use Rattle.intern_store.proofs.Compared.{get-retained}
use Rattle.intern_marks.specs.Names.{has}
use Rattle.intern_marks.specs.Reach.{Entry, entry_of, is_entry, starts_with, Reached, IsReachedSet, kept_entries}
use Rattle.intern_marks.proofs.Reaching.{reached_again, filter_twice}
use Rattle.ra_ap_intern.specs.Families.{kept_named}

-- what is left has no other names
pub kept_in : (set : Name → Bool) (family : List Entry) (x : Name) → is_entry (filter (λ e. set e.name) family) x ≡ true → set x ≡ true
kept_in set [] x there = cc there
kept_in set (e ∷ es) x there = grind (arith, names_same x e.name, kept_in set es x)

-- the entry of a name that is left is what it was
pub entry_kept : (set : Name → Bool) (family : List Entry) (x : Name) → entry_of (filter (λ e. set e.name) family) x ≡ cond (set x) (entry_of family x) None
entry_kept set [] x = grind arith
entry_kept set (e ∷ es) x = grind (arith, names_same x e.name, entry_kept set es x)

-- what a second collection reaches, from the same roots, is all that is left
pub reaches_all : (family rest : List Entry) (listed names again : List Name) → IsReachedSet (starts_with listed family) family names
    → rest ≡ kept_entries family names → IsReachedSet (starts_with listed rest) rest again
    → (x : Name) → is_entry rest x ≡ true → has again x ≡ true
reaches_all family rest listed names again first left second x there =
    let was = kept_in (has names) family x (ap (λ es. is_entry es x) (sym left) ∙ there) in
    let reached = ((reached_again family listed names first).reached x).0 was in
    (second.reached x).1 (subst (λ es. Reached (starts_with listed es) es x) (sym left) reached)

either_way : (a b : Bool) → (a ≡ true → b ≡ true) → (b ≡ true → a ≡ true) → a ≡ b
either_way a b there back = grind (arith, there, back)

pub one_set : (begins : Name → Bool) (family : List Entry) (names others : List Name)
    → IsReachedSet begins family names → IsReachedSet begins family others → has names ≡ has others
one_set begins family names others first second = λ i x.
    either_way (has names x) (has others x)
    (λ is. (second.reached x).1 ((first.reached x).0 is))
    (λ is. (first.reached x).1 ((second.reached x).0 is)) i

-- so it keeps as many entries as there are, and removes none
pub none_removed : (family rest : List Entry) (listed names again : List Name) (removed : ℕ) → IsReachedSet (starts_with listed family) family names
    → rest ≡ kept_entries family names → IsReachedSet (starts_with listed rest) rest again → removed + length (kept_entries rest again) ≡ length rest → removed ≡ 0
none_removed family rest listed names again removed first left second told =
    let first_again = subst (λ es. IsReachedSet (starts_with listed es) es names) (sym left) (reached_again family listed names first) in
    let same : has again ≡ has names = one_set (starts_with listed rest) rest again names second first_again in
    let all : kept_entries rest again ≡ rest =
    ap (λ set. filter (λ e. set e.name) rest) same ∙ ap (filter (λ e. has names e.name)) left
    ∙ filter_twice (λ e. has names e.name) family ∙ sym left in
    let long = ap length all in
    omega arith

name_of_birth : {V : Type 0} (s : State V) (n : Name) → (n.storage == s.number) ≡ true → name_in s n.birth ≡ n
name_of_birth s n own = λ i. record { storage = sym (eqb-true n.storage s.number own) i; birth = n.birth }

-- what is known of a name that stays is what was known, and of another nothing is
pub of_kept : {V X : Type 0} (f : Kept V → X) (s : State V) (set : Name → Bool) (n : Name)
    → cond (n.storage == s.number) (option_map f (entry_at (kept_named s set) n.birth)) None
    ≡ cond (set n) (cond (n.storage == s.number) (option_map f (entry_at s n.birth)) None) None
of_kept f s set n =
    grind (arith, nat_tests, name_of_birth s n, get-retained s.map (λ b. set (name_in s b)) n.birth)
