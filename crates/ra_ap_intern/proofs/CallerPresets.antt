-- The texts that constants have.
use Rattle.std.proofs.Common.{◌≡◌, ℕ, true, List, Option, Some, None, Contains, ap}
use Rattle.std.specs.List.{list_all}
use Rattle.std.specs.Option.{option_eq}
use Rattle.std.specs.Str.{bytes_eq}
use Rattle.std.proofs.lemmas.List.Elements.{All-contains}
use Rattle.std.proofs.lemmas.List.Sums.{AllPass-from_list_all}
use Rattle.std.proofs.lemmas.Slice.Eq.{bytes_eq-Decides}
use Rattle.ra_ap_intern.specs.Constants.{constants}
use Rattle.ra_ap_intern.specs.Symbols.{symbol_name, own_text, has_its_text}
use Rattle.ra_ap_intern.specs.declared.symbol.Symbol.{Symbol}

-- an optional text that is found to be this is it
equal_text : (o : Option (List ℕ)) (text : List ℕ) → option_eq bytes_eq o (Some text) ≡ true
    → o ≡ Some text
equal_text (Some other) text is = ap Some ((bytes_eq-Decides other text).0 is)
equal_text None text is = absurd (cc)

-- a constant has the text that is listed with it, by the law `constants_have_their_texts`
pub constant_text : list_all has_its_text constants ≡ true → (c : Symbol) (text : List ℕ)
    → Contains constants (c, text) → own_text (symbol_name c) ≡ Some text
constant_text all c text listed =
    equal_text (own_text (symbol_name c)) text
    (All-contains (λ e. has_its_text e ≡ true) constants (c, text)
    (AllPass-from_list_all has_its_text constants all) listed)
