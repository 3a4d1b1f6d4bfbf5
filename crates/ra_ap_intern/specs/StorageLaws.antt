-- The entries of a storage.
use Rattle.std.proofs.Common.{◌≡◌, ℕ, Bool, true, false, cond, ◌&&◌, ◌||◌, ◌==◌, List, [], ◌∷◌, Option, Some, None, Equal, is_some, refl, sym, ap, ◌∙◌}
use Rattle.std.specs.Prelude.{map as list_map}
use Rattle.std.specs.List.{filter}
use Rattle.std.specs.Option.{option_map}
use Rattle.std.specs.Ordering.{nat_cmp}
use Rattle.std.specs.Cmp.{nat_cmp_total}
use Rattle.std.specs.FinMap.{FinMap, find, entries, entries_sorted, get-entries, retain_keys, same_map, nat_cmp-IsAntisymmetric}
use Rattle.std.specs.FinMap.Entries.{is_sorted-where_key, find-where_key, same_entries}
use Rattle.std.proofs.lemmas.Bool.{eqb-true, eq-eqb}
use Rattle.intern_store.specs.Kept.{Kept}
use Rattle.intern_store.specs.State.{State, name_in, entry_at}
use Rattle.intern_store.specs.declared.names.Name.{Name}
use Rattle.intern_store.proofs.Compared.{tied, get-retained}
use Rattle.intern_marks.specs.Reach.{Entry, entry_of, is_entry}
use Rattle.ra_ap_intern.specs.Families.{entries_of, kept_named, has_number}

-- the entries that are left of a map
retained : {X : Type 0} (m : FinMap nat_cmp X) (p : ℕ → Bool)
    → entries (retain_keys m p) ≡ filter (λ e. p e.0) (entries m)
retained m p =
    same_entries nat_cmp nat_cmp_total nat_cmp-IsAntisymmetric (entries (retain_keys m p)) _
    (entries_sorted (retain_keys m p))
    (is_sorted-where_key nat_cmp p (entries m) (entries_sorted m))
    (λ q.
    let alike = λ (x : ℕ) (e : nat_cmp q x ≡ Equal). ap p (sym (nat_cmp-IsAntisymmetric q x e)) in
    sym (get-entries (retain_keys m p) q) ∙ get-retained m p q
    ∙ ap (λ o. cond (p q) o None) (get-entries m q)
    ∙ sym (find-where_key nat_cmp p q alike (entries m)))

-- a filter of what f gives
filtered : {X Y : Type 0} (f : X → Y) (p : Y → Bool) (xs : List X)
    → list_map f (filter (λ x. p (f x)) xs) ≡ filter p (list_map f xs)
filtered f p [] = refl
filtered {X} f p (x ∷ xs) =
    go (p (f x)) (filter (λ x. p (f x)) xs)
    ∙ ap (λ ys. cond (p (f x)) (f x ∷ ys) ys) (filtered f p xs)
  where
    go : (b : Bool) (ys : List X)
        → list_map f (cond b (x ∷ ys) ys) ≡ cond b (f x ∷ list_map f ys) (list_map f ys)
    go true ys = refl
    go false ys = refl

nothing : {X : Type 0} (b : Bool) → cond {A = Option X} b None None ≡ None
nothing true = refl
nothing false = refl

module _ {V : Type 0} (children : V → List Name) (s : State V) where
  -- an entry, as a collection sees it
  abbrev pub as_entry : ℕ → Kept V → Entry
  as_entry b k = record { name = name_in s b; count = k.count; children = children k.value }

  -- the entry of a name, from what its birth has
  abbrev pub of_name : Name → Option (Kept V) → Option Entry
  of_name x o = cond (x.storage == s.number) (option_map (as_entry x.birth) o) None

  among : (x : Name) (es : List (ℕ × Kept V))
      → entry_of (list_map (λ e. as_entry e.0 e.1) es) x ≡ of_name x (find nat_cmp x.birth es)
  among x [] = sym (nothing (x.storage == s.number))
  among x (e ∷ es) =
      ap (cond ((x.storage == s.number) && (x.birth == e.0)) (Some (as_entry e.0 e.1))) (among x es)
      ∙ here (x.storage == s.number) (x.birth == e.0) refl
      ∙ ap (λ t. of_name x (cond t (Some e.1) rest)) (sym (tied x.birth e.0))
    where
      rest : Option (Kept V)
      rest = find nat_cmp x.birth es

      entry : Option (Kept V) → Option Entry
      entry o = option_map (as_entry x.birth) o

      here : (t b : Bool) → (x.birth == e.0) ≡ b
          → cond (t && b) (Some (as_entry e.0 e.1)) (cond t (entry rest) None)
          ≡ cond t (entry (cond b (Some e.1) rest)) None
      here true true same = ap (λ b. Some (as_entry b e.1)) (sym (eqb-true x.birth e.0 same))
      here true false same = refl
      here false b same = refl

  -- the entry of a name is that of its birth, where the name is of this storage
  pub entry_named : (x : Name) → entry_of (entries_of children s) x ≡ of_name x (entry_at s x.birth)
  entry_named x = among x (entries s.map) ∙ ap (of_name x) (sym (get-entries s.map x.birth))

  -- a sweep leaves the entries whose names are in the set
  pub entries_kept : (set : Name → Bool)
      → entries_of children (kept_named s set) ≡ filter (λ e. set e.name) (entries_of children s)
  entries_kept set =
      ap (list_map (λ e. as_entry e.0 e.1)) (retained s.map (λ b. set (name_in s b)))
      ∙ filtered (λ e. as_entry e.0 e.1) (λ e. set e.name) (entries s.map)

  -- a set that has the names of all entries leaves the storage as it was
  pub whole_kept : (set : Name → Bool)
      → ((x : Name) → is_entry (entries_of children s) x ≡ true → set x ≡ true)
      → kept_named s set ≡ s
  whole_kept set all =
      ap (λ m. record s { map = m }) (same_map nat_cmp_total nat_cmp-IsAntisymmetric _ _ (λ b.
      get-retained s.map (λ b. set (name_in s b)) b ∙ stays b (entry_at s b) refl))
    where
      stays : (b : ℕ) (o : Option (Kept V)) → entry_at s b ≡ o → cond (set (name_in s b)) o None ≡ o
      stays b None at = nothing (set (name_in s b))
      stays b (Some k) at =
          let mine = eq-eqb s.number s.number refl in
          let is = entry_named (name_in s b) ∙ ap (of_name (name_in s b)) at in
          let there = ap is_some is ∙ ap (λ t. is_some (cond t (Some (as_entry b k)) None)) mine in
          ap (λ t. cond t (Some k) None) (all (name_in s b) there)

  -- an entry's name has the storage's number
  pub entry_numbered : (x : Name) → is_entry (entries_of children s) x ≡ true
      → has_number (s.number ∷ []) x.storage ≡ true
  entry_numbered x is =
      go (x.storage == s.number) (option_map (as_entry x.birth) (entry_at s x.birth))
      (sym (ap is_some (entry_named x)) ∙ is)
    where
      go : (t : Bool) (o : Option Entry) → is_some (cond t o None) ≡ true → (t || false) ≡ true
      go true o is = refl
      go false o is = is
