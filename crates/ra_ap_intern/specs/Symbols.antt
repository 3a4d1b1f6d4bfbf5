-- What symbols are, and what a table of texts holds.
use Rattle.std.specs.Prelude.{◌≡◌, ◌⊎◌, ℕ, ◌==◌, Bool, false, ◌&&◌, List, [], ◌∷◌, ◌++◌, Option, Some, None, is_none, map as list_map, ◌-◌, ◌^◌, if◌then◌else◌}
use Rattle.std.specs.FinMap as map
use Rattle.std.specs.List.{filter_map}
use Rattle.std.specs.Option.{option_eq, option_map}
use Rattle.std.specs.Ordering.{nat_cmp}
use Rattle.std.specs.Str.{bytes_eq}
use Rattle.std.specs.declared.cmp.Ordering.{Ordering}
use Rattle.std.specs.declared.cmp.Ordering.TheVariants.{Less, Greater}
use Rattle.intern_presets.specs.Presets.{preset_text, place_of}
use Rattle.intern_store.specs.Kept.{Kept}
use Rattle.intern_store.specs.Named.{key_name, same_name}
use Rattle.intern_store.specs.Outcome.{IsWhy}
use Rattle.intern_store.specs.State.{State, entry_at, name_in, name_of_value, reads, counts, is_new, interned_name, interned_counted, due, due_interning, full, any_count, released}
use Rattle.intern_store.specs.declared.names.Name.{Name}
use Rattle.intern_store.specs.declared.refusal.Refusal.{Refusal}
use Rattle.intern_store.specs.declared.refusal.Refusal.TheVariants.{OutOfMemory}
use Rattle.ra_ap_intern.specs.Handle.{name_cmp}
use Rattle.ra_ap_intern.specs.Held.{IsCounted}
use Rattle.ra_ap_intern.specs.Interning.{AddsInTurn}
use Rattle.ra_ap_intern.specs.declared.symbol.Symbol.{Symbol}
use Rattle.ra_ap_intern.specs.declared.symbol.SymbolRef.{SymbolRef}
use Rattle.ra_ap_intern.specs.declared.symbol.display.SymbolDisplay.{SymbolDisplay}
use Rattle.ra_ap_intern.specs.declared.symbol.owed.OwedSymbol.{OwedSymbol}
use Rattle.ra_ap_intern.specs.declared.symbol.packed.Packed.{Packed}
use Rattle.ra_ap_intern.specs.declared.symbol.packed.Source.{Source}
use Rattle.ra_ap_intern.specs.declared.symbol.packed.Source.TheVariants.{Preset, Runtime}

-- every text is counted, and none is a preset
pub record IsTable (s : State (List ℕ)) : Type 0 where
  pub positive : IsCounted s
  pub others : (b : ℕ) (k : Kept (List ℕ)) → entry_at s b ≡ Some k → place_of k.value ≡ None

-- what a symbol names: the preset of a place, or an entry of a table
pub data Named : Type 0 where
  preset : ℕ → Named
  entry : Name → Named

-- whether two symbols name the same preset, or the same entry
abbrev pub same_named : Named → Named → Bool
same_named (preset p) (preset q) = p == q
same_named (preset p) (entry m) = false
same_named (entry n) (preset q) = false
same_named (entry n) (entry m) = same_name n m

-- the order of what symbols name: presets by their places, and then entries by their names
abbrev pub named_cmp : Named → Named → Ordering
named_cmp (preset p) (preset q) = nat_cmp p q
named_cmp (preset p) (entry m) = Less
named_cmp (entry n) (preset q) = Greater
named_cmp (entry n) (entry m) = name_cmp n m

-- what a symbol holds: a preset stands as the birth of what lies nowhere
unfoldable pub source_of : Packed → Source
source_of p =
    if p.2 == 2 ^ 64 - 1 then Preset p.1
    else Runtime (record { storage = p.0; spot = record { birth = p.1; place = p.2 } })

abbrev pub source_name : Source → Named
source_name (Preset place) = preset place
source_name (Runtime key) = entry (key_name key)

abbrev pub symbol_name : Symbol → Named
symbol_name s = source_name (source_of s.0)

abbrev pub symbol_ref_name : SymbolRef → Named
symbol_ref_name s = source_name (source_of s.0)

-- the symbol in one that must be released
abbrev pub symbol_of : OwedSymbol → Symbol
symbol_of s = s.symbol

-- a symbol that is to be written, and the table that reads it
abbrev pub displayed : {B H : Type 0} → SymbolDisplay B H → Named × State (List ℕ)
displayed d = (symbol_ref_name d.symbol, d.table.now)

-- the name of a symbol's entry; presets have none
abbrev pub entry_name : Named → Option Name
entry_name (preset place) = None
entry_name (entry name) = Some name

-- the names of the entries of symbols
abbrev pub entry_names : List Named → List Name
entry_names symbols = filter_map entry_name symbols

-- the text of a symbol, while it can be read
abbrev pub text_of : State (List ℕ) → Named → Option (List ℕ)
text_of s (preset place) = preset_text place
text_of s (entry name) = reads s name

-- the text of a preset; an entry has one only in its table
abbrev pub own_text : Named → Option (List ℕ)
own_text (preset place) = preset_text place
own_text (entry name) = None

-- whether a symbol is the preset of a text
abbrev pub has_its_text : Symbol × List ℕ → Bool
has_its_text c = option_eq bytes_eq (own_text (symbol_name c.0)) (Some c.1)

-- the count of a symbol's text; presets have none
abbrev pub count_of : State (List ℕ) → Named → Option ℕ
count_of s (preset place) = None
count_of s (entry name) = counts s name

-- the refusal of a call on a symbol; presets are never refused
abbrev pub due_of : State (List ℕ) → Named → (ℕ → Option Refusal) → Option Refusal
due_of s (preset place) by_count = None
due_of s (entry name) by_count = due s name by_count

-- with this change at the entry of a symbol; presets change nothing
abbrev pub at_entry : (State (List ℕ) → ℕ → State (List ℕ)) → State (List ℕ) → Named
    → State (List ℕ)
at_entry change s (preset place) = s
at_entry change s (entry name) = change s name.birth

-- a table, in which one count of a symbol is given up where it is there
abbrev pub given_up : State (List ℕ) → Named → State (List ℕ)
given_up s name = if is_none (due_of s name any_count) then at_entry (released false) s name else s

-- a symbol, and the table in which it is counted
pub record Counted : Type 0 where
  pub symbol : Named
  pub table : State (List ℕ)

-- the symbol of a preset's place, or of a text that is no preset
abbrev pub symbol_at : Option ℕ → State (List ℕ) → List ℕ → Counted
symbol_at (Some place) s t = record { symbol = preset place; table = s }
symbol_at None s t =
    record { symbol = entry (interned_name bytes_eq s t); table = interned_counted bytes_eq s t }

-- the symbol of a text
abbrev pub symbol_in : State (List ℕ) → List ℕ → Counted
symbol_in s t = symbol_at (place_of t) s t

-- the refusal of a call that interns a text, before want of memory
abbrev pub due_symbol_at : Option ℕ → State (List ℕ) → List ℕ → Option Refusal
due_symbol_at (Some place) s t = None
due_symbol_at None s t = due_interning bytes_eq s t (full s.top)

abbrev pub due_symbol : State (List ℕ) → List ℕ → Option Refusal
due_symbol s t = due_symbol_at (place_of t) s t

-- what names a text: a preset, or the entry that has it
abbrev pub named_at : Option ℕ → State (List ℕ) → List ℕ → Option Named
named_at (Some place) s t = Some (preset place)
named_at None s t = option_map entry (name_of_value bytes_eq s t)

abbrev pub named_in : State (List ℕ) → List ℕ → Option Named
named_in s t = named_at (place_of t) s t

-- a text that a table lists under its birth, with what names it
abbrev pub text_with_name : ℕ → ℕ × (List ℕ × ℕ) → Named × List ℕ
text_with_name number e = (entry (record { storage = number; birth = e.0 }), e.1.0)

-- each entry, with its text
abbrev pub named_texts : State (List ℕ) → List (Named × List ℕ)
named_texts s = list_map (λ e. (entry (name_in s e.0), e.1.value)) (map.entries s.map)

-- whether a text is neither a preset nor stored
abbrev pub is_new_text : State (List ℕ) → List ℕ → Bool
is_new_text s t = is_none (place_of t) && is_new bytes_eq s t

-- texts were interned in turn, and their symbols are behind those that were listed
abbrev pub AddsTexts : State (List ℕ) → State (List ℕ) → List (List ℕ) → List Named → List Named → Type 0
AddsTexts = AddsInTurn (λ s t. (symbol_in s t).table) (λ s t. (symbol_in s t).symbol) due_symbol

-- of texts that were to be interned in turn one was refused, as it is alone, or the first, with
-- none done, for want of room for their symbols
pub record IsRefusedText (old new : State (List ℕ)) (all : List (List ℕ)) (listed names : List Named)
    (no_room : Type 0) (reason : Refusal) : Type 0
  where
    pub done : List (List ℕ)
    pub text : List ℕ
    pub left : List (List ℕ)
    pub texts : all ≡ done ++ text ∷ left
    pub adds : AddsTexts old new done listed names
    pub why : IsWhy (due_symbol new text) (is_new_text new text) reason
        ⊎ ((reason ≡ OutOfMemory) × (done ≡ []) × no_room)
