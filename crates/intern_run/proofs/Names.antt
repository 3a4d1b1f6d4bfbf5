-- What slots are seen as: the names of their handles.
use Rattle.std.proofs.Common.{◌≡◌, ℕ, List, [], ◌∷◌, suc, zero, Option, Some, None, refl, sym, ap, ◌∙◌}
use Rattle.std.specs.Prelude.{slice_set}
use Rattle.std.specs.Option.{option_map}
use Rattle.std.proofs.lemmas.List.{map-set}
use Rattle.ra_ap_intern.specs.Handle.{name_of}
use Rattle.ra_ap_intern.specs.declared.storage.Owned.{Owned}
use Rattle.intern_run.specs.Slots.{names, handle_at}

pub names-set : {K : Type 0} (slots more : List (Option (Owned K))) (n : ℕ) (o : Option (Owned K)) → more ≡ slice_set slots n o
    → names more ≡ slice_set (names slots) n (option_map name_of o)
names-set slots more n o set = ap names set ∙ map-set (option_map name_of) slots n o

-- a slot that holds nothing stays as it is where it is emptied
pub emptied_again : {H : Type 0} (slots : List (Option H)) (n : ℕ) → handle_at slots n ≡ None → slice_set slots n None ≡ slots
emptied_again [] n none = refl
emptied_again (None ∷ slots) zero none = refl
emptied_again (Some h ∷ slots) zero none = absurd (cc)
emptied_again (slot ∷ slots) (suc n) none = ap (λ more. slot ∷ more) (emptied_again slots n none)

-- a handle that is taken out and put back
pub put_again : {H : Type 0} (slots : List (Option H)) (n : ℕ) (h : H) → handle_at slots n ≡ Some h → slice_set (slice_set slots n None) n (Some h) ≡ slots
put_again [] n h had = refl
put_again (None ∷ slots) zero h had = absurd (cc)
put_again (Some k ∷ slots) zero h had = ap (λ slot. slot ∷ slots) (sym had)
put_again (slot ∷ slots) (suc n) h had = ap (λ more. slot ∷ more) (put_again slots n h had)
