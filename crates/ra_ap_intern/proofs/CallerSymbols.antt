-- Symbols and the texts that they name: what a table names after an interning.
use Rattle.std.proofs.Common.{◌≡◌, ◌↔◌, ℕ, zero, suc, ◌-◌, ◌^◌, Bool, true, false, List, [], ◌∷◌, Option, Some, None, refl, sym, ap, ◌∙◌, arith}
use Rattle.std.specs.List.{fold, slice_get}
use Rattle.std.specs.Option.{option_map}
use Rattle.std.specs.Str.{bytes_eq}
use Rattle.std.specs.Cmp.Lexicographic.{nat_list_eq_equiv}
use Rattle.std.proofs.lemmas.Bool.{eq-eqb, eqb-true}
use Rattle.std.proofs.lemmas.Option.{same_Some}
use Rattle.std.proofs.lemmas.Slice.Eq.{bytes_eq-Decides}
use Rattle.ra_ap_intern.specs.Interning.{NoneDue, given_in_turn}
use Rattle.ra_ap_intern.specs.Presets.{place_of}
use Rattle.ra_ap_intern.specs.State.{State, IsState, reads, name_of_value}
use Rattle.ra_ap_intern.specs.Symbols.{Named, same_named, source_of, symbol_ref_name, text_of, named_in, named_at, symbol_in, symbol_at, due_symbol, due_symbol_at, AddsTexts}
use Rattle.ra_ap_intern.specs.Symbols.Named.{preset, entry}
use Rattle.ra_ap_intern.specs.declared.symbol.SymbolRef.{SymbolRef}
use Rattle.intern_store.proofs.Named.{names_same, same_names}
use Rattle.ra_ap_intern.proofs.CallerInterning.{found_reads, read_found, interned_counted_reads, interned_counted_found_elsewhere}
use Rattle.ra_ap_intern.proofs.CallerReads.{some_read, interned_counted_reads_on}
use Rattle.ra_ap_intern.proofs.CallerStates.{state_interned_counted}
use Rattle.ra_ap_intern.proofs.CallerViews.{equality_tested}
use Rattle.ra_ap_intern.proofs.Texts.{reads_back as symbol_reads}

-- symbols that are found to name the same do
pub named_same : (a b : Named) → same_named a b ≡ true → a ≡ b
named_same (preset p) (preset q) is = ap preset (eqb-true p q is)
named_same (preset p) (entry m) is = absurd (cc)
named_same (entry n) (preset q) is = absurd (cc)
named_same (entry n) (entry m) is = ap entry (names_same n m is)

pub same_nameds : (a : Named) → same_named a a ≡ true
same_nameds (preset p) = eq-eqb p p refl
same_nameds (entry n) = same_names n n refl

-- each preset, and each name, has a reference
pub named_by : (a : Named) → (r : SymbolRef) × (symbol_ref_name r ≡ a)
unfolding source_of
named_by (preset p) =
    let r : SymbolRef = record { 0 = record { 0 = 0; 1 = p; 2 = 2 ^ 64 - 1 } } in (r, refl)
named_by (entry n) =
    let r : SymbolRef = record { 0 = record { 0 = n.storage; 1 = n.birth; 2 = 0 } } in (r, refl)

-- an equality of references that tells what they name is the test of that
pub references_tested : (eq : SymbolRef → SymbolRef → Bool)
    → ((a b : SymbolRef) → (eq a b ≡ true) ↔ (symbol_ref_name a ≡ symbol_ref_name b))
    → (a b : SymbolRef) → eq a b ≡ same_named (symbol_ref_name a) (symbol_ref_name b)
references_tested eq alike =
    equality_tested eq same_named symbol_ref_name alike named_same same_nameds

-- a table stays one where a text is interned that nothing refuses
pub state_symbol : (s : State (List ℕ)) (text : List ℕ) → IsState bytes_eq s
    → due_symbol s text ≡ None → IsState bytes_eq (symbol_in s text).table
state_symbol s text ok due = go (place_of text) due
  where
    go : (p : Option ℕ) → due_symbol_at p s text ≡ None → IsState bytes_eq (symbol_at p s text).table
    go (Some place) free = ok
    go None free = state_interned_counted bytes_eq nat_list_eq_equiv s text ok free

-- ---- after a text is interned

module _ (s : State (List ℕ)) (name : List ℕ) (ok : IsState bytes_eq s) (free : due_symbol s name ≡ None) where
  -- it has its symbol
  pub named_here : named_in (symbol_in s name).table name ≡ Some (symbol_in s name).symbol
  named_here = go (place_of name) (state_symbol s name ok free)
    where
      go : (p : Option ℕ) → IsState bytes_eq (symbol_at p s name).table
          → named_at p (symbol_at p s name).table name ≡ Some (symbol_at p s name).symbol
      go (Some place) is = refl
      go None is =
          let r = interned_counted_reads bytes_eq nat_list_eq_equiv s name in
          ap (option_map entry) (read_found bytes_eq nat_list_eq_equiv _ is name _ r.0 r.1 r.2)

  -- and each other text that which it had
  pub named_there : (text : List ℕ) → bytes_eq name text ≡ false
      → named_in (symbol_in s name).table text ≡ named_in s text
  named_there text other = go (place_of name) (place_of text) (state_symbol s name ok free)
    where
      go : (p q : Option ℕ) → IsState bytes_eq (symbol_at p s name).table
          → named_at q (symbol_at p s name).table text ≡ named_at q s text
      go p (Some place) is = refl
      go (Some place) None is = refl
      go None None is =
          ap (option_map entry)
          (interned_counted_found_elsewhere bytes_eq nat_list_eq_equiv s name ok is text other)

-- a text's symbol reads it
pub named_reads : (s : State (List ℕ)) (text : List ℕ) (a : Named) → named_in s text ≡ Some a
    → text_of s a ≡ Some text
named_reads s text a is = go (place_of text) (symbol_reads s text) is
  where
    go : (q : Option ℕ) → text_of (symbol_at q s text).table (symbol_at q s text).symbol ≡ Some text
        → named_at q s text ≡ Some a → text_of s a ≡ Some text
    go (Some p) read h = ap (text_of s) (sym (same_Some _ _ h)) ∙ read
    go None read h =
        let n = some_read (name_of_value bytes_eq s text) (grind arith) in
        let r = found_reads bytes_eq s text n.0 n.1 in
        grind (arith, n.1, r.1, r.2, bytes_eq-Decides text r.0)

-- two texts of one symbol are equal
pub named_once : (s : State (List ℕ)) (text other : List ℕ) (a b : Named)
    → named_in s text ≡ Some a → named_in s other ≡ Some b → a ≡ b → text ≡ other
named_once s text other a b here there same =
    same_Some text other (sym (named_reads s text a here) ∙ ap (text_of s) same
    ∙ named_reads s other b there)

-- what a symbol's text is stays that after an interning
pub text_stays : (s : State (List ℕ)) → IsState bytes_eq s → (interned_text : List ℕ) (a : Named) (text : List ℕ)
    → text_of s a ≡ Some text → text_of (symbol_in s interned_text).table a ≡ Some text
text_stays s ok other (preset place) text is = is
text_stays s ok other (entry name) text is = go (place_of other)
  where
    go : (p : Option ℕ) → reads (symbol_at p s other).table name ≡ Some text
    go (Some place) = is
    go None = interned_counted_reads_on bytes_eq s ok other name text is

-- ---- after texts are interned in turn

-- the table once one is interned, and its symbol
abbrev then_table : State (List ℕ) → List ℕ → State (List ℕ)
then_table s text = (symbol_in s text).table

abbrev its_symbol : State (List ℕ) → List ℕ → Named
its_symbol s text = (symbol_in s text).symbol

texts_stay : (s : State (List ℕ)) → IsState bytes_eq s → (texts : List (List ℕ)) → NoneDue then_table due_symbol s texts
    → (a : Named) (text : List ℕ) → text_of s a ≡ Some text → text_of (fold then_table s texts) a ≡ Some text
texts_stay s ok [] free a text is = is
texts_stay s ok (other ∷ texts) free a text is =
    texts_stay (then_table s other) (state_symbol s other ok free.0) texts free.1 a text (text_stays s ok other a text is)

each_reads : (s : State (List ℕ)) → IsState bytes_eq s → (texts : List (List ℕ)) → NoneDue then_table due_symbol s texts
    → (i : ℕ) (text : List ℕ) → slice_get texts i ≡ Some text
    → (a : Named) × (slice_get (given_in_turn then_table its_symbol s texts) i ≡ Some a) × (text_of (fold then_table s texts) a ≡ Some text)
each_reads s ok [] free i text at = absurd (cc)
each_reads s ok (first ∷ texts) free zero text at = (
  its_symbol s first,
  refl,
  texts_stay (then_table s first) (state_symbol s first ok free.0) texts free.1 (its_symbol s first) text (symbol_reads s first ∙ at),
)
each_reads s ok (first ∷ texts) free (suc i) text at =
    each_reads (then_table s first) (state_symbol s first ok free.0) texts free.1 i text at

module _ (s new : State (List ℕ)) (texts : List (List ℕ)) (symbols : List Named) (ok : IsState bytes_eq s)
    (adds : AddsTexts s new texts [] symbols) where
  -- each of their symbols reads its text
  pub added_reads : (i : ℕ) (text : List ℕ) → slice_get texts i ≡ Some text
      → (a : Named) × (slice_get symbols i ≡ Some a) × (text_of new a ≡ Some text)
  added_reads i text at =
      let r = each_reads s ok texts adds.due i text at in
      (r.0, ap (λ names. slice_get names i) adds.named ∙ r.1, ap (λ t. text_of t r.0) adds.state ∙ r.2)

  -- and what was read is read
  pub added_stay : (a : Named) (text : List ℕ) → text_of s a ≡ Some text → text_of new a ≡ Some text
  added_stay a text is = ap (λ t. text_of t a) adds.state ∙ texts_stay s ok texts adds.due a text is
