-- What a map has once each value is turned into another.
use Rattle.std.proofs.Common.{◌≡◌, ℕ, Bool, true, false, cond, List, [], ◌∷◌, length, ◌<◌, Option, Some, None, IsSome, is_some, nat_eq, refl, sym, ap, ◌∙◌, subst, arith}
use Rattle.std.specs.Prelude.{T, map as list_map}
use Rattle.std.proofs.lemmas.List.{length-map}
use Rattle.std.specs.Option.{option_map}
use Rattle.std.specs.Ordering.{nat_cmp, eq_by_cmp}
use Rattle.std.specs.Cmp.{nat_cmp_total}
use Rattle.std.specs.FinMap.{FinMap, empty, get, insert, remove, retain_keys, len, entries, entries_sorted, entries-from_sorted, find, is_sorted, get-entries, get-empty, len-entries, same_map, nat_cmp-IsAntisymmetric}
use Rattle.std.specs.FinMap.Entries.{below_all}
use Rattle.intern_store.proofs.Compared.{get-inserted, get-removed, get-retained}
use Rattle.intern_store.specs.Maps.{map_values}

module _ {X Y : Type 0} (f : X → Y) where
  below_all-map : (x : ℕ) (es : List (ℕ × X)) → below_all nat_cmp x (list_map (λ e. (e.0, f e.1)) es) ≡ below_all nat_cmp x es
  below_all-map x [] = refl
  below_all-map x (e ∷ es) = grind (arith, below_all-map x es)

  is_sorted-map : (es : List (ℕ × X)) → is_sorted nat_cmp (list_map (λ e. (e.0, f e.1)) es) ≡ is_sorted nat_cmp es
  is_sorted-map [] = refl
  is_sorted-map (e ∷ es) = grind (arith, below_all-map e.0 es, is_sorted-map es)

  through : (t : Bool) (o r : Option X) → option_map f (cond t o r) ≡ cond t (option_map f o) (option_map f r)
  through true o r = refl
  through false o r = refl

  find-map : (q : ℕ) (es : List (ℕ × X)) → find nat_cmp q (list_map (λ e. (e.0, f e.1)) es) ≡ option_map f (find nat_cmp q es)
  find-map q [] = refl
  find-map q (e ∷ es) = ap (cond (eq_by_cmp nat_cmp q e.0) (Some (f e.1))) (find-map q es) ∙ sym (through (eq_by_cmp nat_cmp q e.0) (Some e.1) (find nat_cmp q es))

  entries-map_values : (m : FinMap nat_cmp X) → entries (map_values f m) ≡ list_map (λ e. (e.0, f e.1)) (entries m)
  unfolding map_values
  entries-map_values m = entries-from_sorted nat_cmp _ (subst T (sym (is_sorted-map (entries m))) (entries_sorted m))

  pub get-map_values : (m : FinMap nat_cmp X) (q : ℕ) → get (map_values f m) q ≡ option_map f (get m q)
  get-map_values m q =
      get-entries (map_values f m) q ∙ ap (find nat_cmp q) (entries-map_values m) ∙ find-map q (entries m)
      ∙ ap (option_map f) (sym (get-entries m q))

  pub len-map_values : (m : FinMap nat_cmp X) → len (map_values f m) ≡ len m
  len-map_values m =
      len-entries (map_values f m) ∙ ap length (entries-map_values m) ∙ length-map (entries m) _ ∙ sym (len-entries m)

  pub map_values-empty : (m : FinMap nat_cmp X) → m ≡ empty → map_values f m ≡ empty
  map_values-empty m none = same_map nat_cmp_total nat_cmp-IsAntisymmetric _ _ (λ q. grind (arith, get-map_values m q, get-empty {X = X} nat_cmp q, get-empty {X = Y} nat_cmp q))

  -- a map that changed at one key, seen through f
  pub map_values-insert : (m n : FinMap nat_cmp X) (b : ℕ) (x : X) → n ≡ insert m b x → map_values f n ≡ insert (map_values f m) b (f x)
  map_values-insert m n b x is = same_map nat_cmp_total nat_cmp-IsAntisymmetric _ _ (λ q.
      get-map_values n q ∙ ap (λ n. option_map f (get n q)) is ∙ ap (option_map f) (get-inserted m b x q)
      ∙ through (nat_eq q b) (Some x) (get m q)
      ∙ sym (get-inserted (map_values f m) b (f x) q ∙ ap (cond (nat_eq q b) (Some (f x))) (get-map_values m q)))

  pub map_values-remove : (m n : FinMap nat_cmp X) (b : ℕ) → n ≡ remove m b → map_values f n ≡ remove (map_values f m) b
  map_values-remove m n b is = same_map nat_cmp_total nat_cmp-IsAntisymmetric _ _ (λ q.
      get-map_values n q ∙ ap (λ n. option_map f (get n q)) is ∙ ap (option_map f) (get-removed m b q)
      ∙ through (nat_eq q b) None (get m q)
      ∙ sym (get-removed (map_values f m) b q ∙ ap (cond (nat_eq q b) None) (get-map_values m q)))

  pub map_values-retain : (m n : FinMap nat_cmp X) (marked : ℕ → Bool) → n ≡ retain_keys m marked → map_values f n ≡ retain_keys (map_values f m) marked
  map_values-retain m n marked is = same_map nat_cmp_total nat_cmp-IsAntisymmetric _ _ (λ q.
      get-map_values n q ∙ ap (λ n. option_map f (get n q)) is ∙ ap (option_map f) (get-retained m marked q)
      ∙ through (marked q) (get m q) None
      ∙ sym (get-retained (map_values f m) marked q ∙ ap (λ o. cond (marked q) o None) (get-map_values m q)))

  -- a list that both maps give
  pub listed_through : {A : Type 0} (read : ℕ × X → A) (show : ℕ × Y → A) → ((e : ℕ × X) → read e ≡ show (e.0, f e.1))
      → (m : FinMap nat_cmp X) (n : FinMap nat_cmp Y) → map_values f m ≡ n → list_map read (entries m) ≡ list_map show (entries n)
  listed_through {A} read show same m n view = go (entries m) ∙ ap (list_map show) (sym (entries-map_values m) ∙ ap entries view)
    where
      go : (es : List (ℕ × X)) → list_map read es ≡ list_map show (list_map (λ e. (e.0, f e.1)) es)
      go [] = refl
      go (e ∷ es) = grind (arith, same e, go es)

module _ {X Y : Type 0} (f : X → Y) (m : FinMap nat_cmp X) (k : FinMap nat_cmp Y) (view : map_values f m ≡ k) where
  -- what is seen at a birth
  pub seen : (b : ℕ) → get k b ≡ option_map f (get m b)
  seen b = ap (λ n. get n b) (sym view) ∙ get-map_values f m b

  -- and read of it
  pub read_seen : {Z : Type 0} (g : Y → Z) (b : ℕ) → option_map (λ x. g (f x)) (get m b) ≡ option_map g (get k b)
  read_seen {Z} g b = grind (arith, seen b)

  pub is_some_seen : (b : ℕ) → is_some (get m b) ≡ is_some (get k b)
  is_some_seen b = grind (arith, seen b)

  -- a birth above all that are seen is above all
  pub all_below : (b : ℕ) → ((c : ℕ) → IsSome (get k c) → c < b) → (c : ℕ) → IsSome (get m c) → c < b
  all_below b above c some = above c (sym (is_some_seen c) ∙ some)

-- two turns that agree on the values of a map
pub map_values-same : {X Y : Type 0} (f g : X → Y) (m : FinMap nat_cmp X) → ((q : ℕ) (x : X) → get m q ≡ Some x → f x ≡ g x) → map_values f m ≡ map_values g m
map_values-same {X} f g m agree = same_map nat_cmp_total nat_cmp-IsAntisymmetric _ _ (λ q.
    grind (arith, get-map_values f m q, get-map_values g m q, agree q))
