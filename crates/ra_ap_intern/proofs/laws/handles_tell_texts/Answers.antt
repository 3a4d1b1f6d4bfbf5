use Rattle.ra_ap_intern.specs.Symbols.{symbol_name, symbol_of, symbol_ref_name}
use Rattle.ra_ap_intern.proofs.CallerInterning.{iff_trans}
use Rattle.ra_ap_intern.proofs.laws.handles_tell_texts.Goals as goal

pub returns-clause-symbols : goal.returns-clause-symbols
returns-clause-symbols c s ok table a b t u first second =
    iff_trans (c.symbols_are_what_they_name.ensures.equal a b)
    (c.symbols_tell_texts.ensures s ok table (symbol_name a) (symbol_name b) t u first second)

pub returns-clause-references : goal.returns-clause-references
returns-clause-references c s ok table a b t u first second =
    iff_trans (c.symbol_references_are_what_they_name.ensures.equal a b)
    (c.symbols_tell_texts.ensures s ok table (symbol_ref_name a) (symbol_ref_name b) t u first second)

pub returns-clause-owed : goal.returns-clause-owed
returns-clause-owed c s ok table a b t u first second =
    iff_trans (c.owed_symbols_are_what_they_name.ensures.equal a b)
    (c.symbols_tell_texts.ensures s ok table (symbol_name (symbol_of a)) (symbol_name (symbol_of b)) t u
    first second)
