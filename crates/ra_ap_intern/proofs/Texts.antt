-- Symbols and the texts that they read.
use Rattle.std.proofs.Common.{◌≡◌, ◌↔◌, ℕ, ◌+◌, List, Option, Some, None, refl, sym, ap, ◌∙◌}
use Rattle.std.specs.Cmp.Lexicographic.{nat_list_eq_equiv}
use Rattle.std.specs.Str.{bytes_eq}
use Rattle.std.proofs.lemmas.Option.{same_Some, none-some}
use Rattle.std.proofs.lemmas.Slice.Eq.{bytes_eq-Decides}
use Rattle.intern_presets.specs.Presets.{preset_text, place_of}
use Rattle.intern_presets.proofs.Finding.{place_is}
use Rattle.intern_presets.proofs.Standing.{one_place}
use Rattle.intern_store.specs.State.{State, IsState, name_in, reads, birth_of, or_added, interned}
use Rattle.intern_store.specs.declared.names.Name.{Name}
use Rattle.intern_store.proofs.Later.{Later, later_itself, interned_counted_later}
use Rattle.intern_store.proofs.Reading.{recounted_reads, interned_reads}
use Rattle.ra_ap_intern.proofs.CallerReads.{read_at, read_once}
use Rattle.ra_ap_intern.specs.Symbols.{IsTable, Named, text_of, symbol_at, symbol_in, at_entry}
use Rattle.ra_ap_intern.specs.Symbols.Named.{preset, entry}

-- a text that an entry has is no preset's
no_preset : (s : State (List ℕ)) → IsTable s → (p : ℕ) (n : Name) (t u : List ℕ) → preset_text p ≡ Some t → reads s n ≡ Some u → t ≡ u → ⊥
no_preset s table p n t u at read same =
    let r = read_at s n u read in
    let none = ap place_of (sym r.same) ∙ table.others n.birth r.kept r.at in
    none-some p (sym none ∙ ap place_of (sym same) ∙ (place_is t p).1 at)

-- so none of a table's entries has a preset's text
pub preset_is_absent : (s : State (List ℕ)) → IsTable s → (p : ℕ) (t : List ℕ) → preset_text p ≡ Some t → birth_of bytes_eq s t ≡ None
preset_is_absent s table p t at = go (birth_of bytes_eq s t) refl
  where
    go : (o : Option ℕ) → birth_of bytes_eq s t ≡ o → o ≡ None
    go None is = refl
    go (Some b) is =
        let read = interned_reads bytes_eq nat_list_eq_equiv s t in
        let here = sym (ap (λ o. reads (or_added o s t).state (name_in s (or_added o s t).birth)) is) ∙ read.1 in
        absurd (no_preset s table p (name_in s b) t read.0 at here ((bytes_eq-Decides t read.0).0 read.2))

pub told : (s : State (List ℕ)) → IsState bytes_eq s → IsTable s → (a b : Named) (t u : List ℕ) → text_of s a ≡ Some t → text_of s b ≡ Some u → (a ≡ b) ↔ (t ≡ u)
told s is table a b t u first second = (λ same. same_Some _ _ (sym first ∙ ap (text_of s) same ∙ second), by a b first second)
  where
    by : (a b : Named) → text_of s a ≡ Some t → text_of s b ≡ Some u → t ≡ u → a ≡ b
    by (preset p) (preset q) first second same = ap preset (one_place p q t first (second ∙ ap Some (sym same)))
    by (preset p) (entry m) first second same = absurd (no_preset s table p m t u first second same)
    by (entry n) (preset q) first second same = absurd (no_preset s table q n u t second first (sym same))
    by (entry n) (entry m) first second same = ap entry (read_once bytes_eq s is n m t u first second ((bytes_eq-Decides t u).1 same))

pub preset_given : (s : State (List ℕ)) (p : ℕ) (t : List ℕ) → preset_text p ≡ Some t → symbol_in s t ≡ record { symbol = preset p; table = s }
preset_given s p t at = ap (λ o. symbol_at o s t) ((place_is t p).1 at)

pub reads_back : (s : State (List ℕ)) (t : List ℕ) → text_of (symbol_in s t).table (symbol_in s t).symbol ≡ Some t
reads_back s t = go (place_of t) refl
  where
    go : (o : Option ℕ) → place_of t ≡ o → text_of (symbol_at o s t).table (symbol_at o s t).symbol ≡ Some t
    go (Some p) is = (place_is t p).0 is
    go None is =
        let i = interned bytes_eq s t in
        let read = interned_reads bytes_eq nat_list_eq_equiv s t in
        recounted_reads (λ n. n + 1) i.state i.birth (name_in s i.birth) ∙ read.1 ∙ ap Some (sym ((bytes_eq-Decides t read.0).0 read.2))

-- a table after a call is a later state of it
pub symbol_later : (s : State (List ℕ)) (t : List ℕ) → Later s (symbol_in s t).table
symbol_later s t = go (place_of t)
  where
    go : (o : Option ℕ) → Later s (symbol_at o s t).table
    go (Some p) = later_itself s
    go None = interned_counted_later bytes_eq s t

pub changed_later : (change : State (List ℕ) → ℕ → State (List ℕ)) → ((s : State (List ℕ)) (b : ℕ) → Later s (change s b))
    → (s : State (List ℕ)) (a : Named) → Later s (at_entry change s a)
changed_later change later s (preset p) = later_itself s
changed_later change later s (entry n) = later s n.birth
