use Rattle.std.proofs.Common.{◌≡◌, ℕ, ◌+◌, ◌<◌, Bool, true, ◌||◌, ◌==◌, List, length, get_or, Some, slice_get, refl, sym, ap, ◌∙◌, subst, zero-add, inl, inr, ◌⊎◌, ⊎_elim}
use Rattle.std.specs.List.{list_all, enumerate_from}
use Rattle.std.proofs.lemmas.Bool.{or_cases, eqb-true}
use Rattle.std.proofs.lemmas.List.FromFn.{length-enumerate_from, get_or-enumerate_from}
use Rattle.std.proofs.lemmas.Option.{slice_get_within, slice_get-get_or, get_or_from_slice_get}
use Rattle.intern_presets.specs.declared.table.TheConstants.{SLOTS}
use Rattle.intern_presets.specs.Slots.{slot_of}
use Rattle.intern_presets.specs.Table.{table}
use Rattle.intern_presets.proofs.Computed.{passes_at}
use Rattle.intern_presets.proofs.slots.candidates.Goals as goal

-- the index of the text stands at its slot or right after it
unfoldable slotted : ℕ × List ℕ → Bool
slotted (i, t) = (i == get_or SLOTS (slot_of t) 0) || (i == get_or SLOTS (slot_of t + 1) 0)

all_slotted : list_all slotted (enumerate_from 0 table) ≡ true
unfolding table slot_of slotted
all_slotted = refl

with_index : {X : Type 0} (xs : List X) (i : ℕ) (x : X) → slice_get xs i ≡ Some x → slice_get (enumerate_from 0 xs) i ≡ Some (i, x)
with_index xs i x e =
    let within : i < length xs = slice_get_within xs i x e in
    slice_get-get_or (enumerate_from 0 xs) i (i, x) (subst (λ n. i < n) (sym (length-enumerate_from 0 xs)) within)
    ∙ ap Some (get_or-enumerate_from 0 xs i (i, x) within ∙ ap (λ k. (k, get_or xs i x)) (zero-add i) ∙ ap (λ y. (i, y)) (get_or_from_slice_get xs i x x e))

has_a_slot : (i : ℕ) (t : List ℕ) → slice_get table i ≡ Some t → (i ≡ get_or SLOTS (slot_of t) 0) ⊎ (i ≡ get_or SLOTS (slot_of t + 1) 0)
unfolding slotted
has_a_slot i t e =
    ⊎_elim (λ s. inl (eqb-true _ _ s)) (λ s. inr (eqb-true _ _ s)) (or_cases _ _ (passes_at slotted (enumerate_from 0 table) all_slotted i (i, t) (with_index table i t e)))

pub returns : goal.returns
returns c i e = subst (λ s. (i ≡ get_or SLOTS s 0) ⊎ (i ≡ get_or SLOTS (s + 1) 0)) (sym c.slot-slot.ensures.is) (has_a_slot i c.args.text.now e)
