use Rattle.std.proofs.Common.{sym, subst}
use Rattle.intern_terms.specs.Handle.{term_name}
use Rattle.intern_terms.specs.Tree.{UnfoldsTo}
use Rattle.ra_ap_intern.specs.Symbols.{symbol_name}
use Rattle.use_terms.proofs.Sums.{one_sum, sum_of_zero}
use Rattle.use_terms.proofs.simplify.Goals as goal

pub returns-in-Some-clause-sum : goal.returns-in-Some-clause-sum
returns-in-Some-clause-sum c rest is =
    let found = rw c.in-Some.is at c.added_to_zero.ensures.some in
    one_sum c.args.terms.now (symbol_name c.args.plus.now) (term_name c.args.term) (term_name c.args.zero) _ rest found is

pub returns-in-None-clause-sum : goal.returns-in-None-clause-sum
returns-in-None-clause-sum c rest is =
    let none = rw c.in-None.is at c.added_to_zero.ensures.none in absurd (none rest is)

pub returns-in-Some-clause-tree : goal.returns-in-Some-clause-tree
returns-in-Some-clause-tree c z rest zeros sum =
    let tell = c.terms_are_equal_exactly_if_their_trees_are.ensures.names _ c.number-number.ensures.state in
    let is = sum_of_zero c.args.terms.now (symbol_name c.args.plus.now) (term_name c.args.term) (term_name c.args.zero) tell z rest zeros sum in
    let found = rw c.in-Some.is at c.added_to_zero.ensures.some in
    let one = one_sum c.args.terms.now (symbol_name c.args.plus.now) (term_name c.args.term) (term_name c.args.zero) _ is.0 found is.1 in
    subst (λ n. UnfoldsTo c.args.terms.now n rest) (sym one) is.2

pub returns-in-None-clause-tree : goal.returns-in-None-clause-tree
returns-in-None-clause-tree c z rest zeros sum =
    let tell = c.terms_are_equal_exactly_if_their_trees_are.ensures.names _ c.number-number.ensures.state in
    let is = sum_of_zero c.args.terms.now (symbol_name c.args.plus.now) (term_name c.args.term) (term_name c.args.zero) tell z rest zeros sum in
    let none = rw c.in-None.is at c.added_to_zero.ensures.none in absurd (none is.0 is.1)
