-- Sums.
use Rattle.std.specs.Prelude.{◌≡◌, [], ◌∷◌, Some}
use Rattle.ra_ap_intern.specs.Name.{Name}
use Rattle.ra_ap_intern.specs.Sliced.{Sliced}
use Rattle.ra_ap_intern.specs.State.{State, reads}
use Rattle.ra_ap_intern.specs.Symbols.{Named, symbol_name}
use Rattle.ra_ap_intern.specs.declared.symbol.Symbol.{Symbol}
use Rattle.intern_terms.specs.Store.{arguments}
use Rattle.intern_terms.specs.declared.handle.TermRef.{TermRef}

-- a name reads the sum of two terms
pub record IsSum (s : State (Sliced Symbol TermRef)) (plus : Named) (name first second : Name)
    : Type 0
  where
    pub term : Sliced Symbol TermRef
    pub read : reads s name ≡ Some term
    pub head : symbol_name term.header ≡ plus
    pub args : arguments term ≡ first ∷ second ∷ []
