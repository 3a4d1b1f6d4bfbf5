-- What the map of a slab's entries has once they are cut to those that are marked.
use Rattle.std.proofs.Common.{◌≡◌, ◌≢◌, ◌⊎◌, inl, inr, ℕ, Bool, true, false, cond, Option, Some, None, refl, sym, ap, ◌∙◌}
use Rattle.std.specs.Ordering.{nat_cmp}
use Rattle.std.specs.Cmp.{nat_cmp_total}
use Rattle.std.specs.FinMap.{FinMap, retain_keys, get as map_get, same_map, nat_cmp-IsAntisymmetric}
use Rattle.std.proofs.lemmas.Option.{same_Some}
use Rattle.slab.specs.Slab.{Slab, get}
use Rattle.intern_store.proofs.Compared.{get-retained}
use Rattle.intern_index.specs.IndexEntry.{IndexEntry}
use Rattle.intern_index.specs.Entries.{seen, held}
use Rattle.intern_index.specs.Swept.{if_marked}
use Rattle.intern_index.specs.declared.entry.Entry.{Entry}
use Rattle.intern_index.proofs.Held.{IsApart, IsIn, IsOut, in_or_out, read_there, read_as}

module _ {T N : Type 0} (marked : ℕ → Bool) where
  -- an entry that is kept was there and is marked
  pub was_marked : (o : Option (Entry T N)) (e : Entry T N) → if_marked marked o ≡ Some e → (o ≡ Some e) × (marked e.birth ≡ true)
  was_marked None e is = absurd (cc)
  was_marked (Some d) e is = go (marked d.birth) refl is
    where
      go : (t : Bool) → marked d.birth ≡ t → cond t (Some d) None ≡ Some e → (Some d ≡ Some e) × (marked e.birth ≡ true)
      go true t is = (is, ap (λ (e : Entry T N). marked e.birth) (sym (same_Some _ _ is)) ∙ t)
      go false t is = absurd (cc)

  module _ (s new : Slab (Entry T N)) (cut : (p : ℕ) → get new p ≡ if_marked marked (get s p)) where
    pub was_there : (p : ℕ) (e : Entry T N) → get new p ≡ Some e → get s p ≡ Some e
    was_there p e there = (was_marked (get s p) e (sym (cut p) ∙ there)).0

    still_there : (p : ℕ) (e : Entry T N) → get s p ≡ Some e → marked e.birth ≡ true → get new p ≡ Some e
    still_there p e there is = cut p ∙ ap (if_marked marked) there ∙ ap (λ t. cond t (Some e) None) is

    pub swept_seen : (m : FinMap nat_cmp (IndexEntry T N)) → held s.slots ≡ m → IsApart s → held new.slots ≡ retain_keys m marked
    swept_seen m view apart = same_map nat_cmp_total nat_cmp-IsAntisymmetric _ _ (λ q. read q ∙ sym (get-retained m marked q))
      where
        absent : (q : ℕ) → marked q ≡ true → ((p : ℕ) (e : Entry T N) → get new p ≡ Some e → e.birth ≢ q) → IsIn 0 s.slots q ⊎ IsOut 0 s.slots q → None ≡ map_get (held s.slots) q
        absent q is none (inl w) = absurd (none w.place w.entry (still_there w.place w.entry w.there (ap marked w.birth ∙ is)) w.birth)
        absent q is none (inr out) = sym out.read

        none_kept : (q : ℕ) (t : Bool) → marked q ≡ t → ((p : ℕ) (e : Entry T N) → get new p ≡ Some e → e.birth ≢ q) → None ≡ cond t (map_get (held s.slots) q) None
        none_kept q true t none = absent q t none (in_or_out s.slots q)
        none_kept q false t none = refl

        kept : (q p : ℕ) (e : Entry T N) → get new p ≡ Some e → e.birth ≡ q → Some (seen p e) ≡ cond (marked q) (map_get (held s.slots) q) None
        kept q p e there birth =
            let was = was_marked (get s p) e (sym (cut p) ∙ there) in
            sym (read_there s apart p e was.0) ∙ ap (map_get (held s.slots)) birth
            ∙ ap (λ t. cond t (map_get (held s.slots) q) None) (sym (sym (ap marked birth) ∙ was.1))

        read : (q : ℕ) → map_get (held new.slots) q ≡ cond (marked q) (map_get m q) None
        read q = read_as new q (cond (marked q) (map_get (held s.slots) q) None) (kept q) (none_kept q (marked q) refl) ∙ ap (λ n. cond (marked q) (map_get n q) None) view
