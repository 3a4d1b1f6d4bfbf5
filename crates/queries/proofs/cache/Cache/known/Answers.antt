use Rattle.std.proofs.Common.{sym, ◌∙◌}
use Rattle.ra_ap_intern.specs.Handle.{ref_name}
use Rattle.ra_ap_intern.proofs.CallerLemmas.{handles_tested, names_same}
use Rattle.queries.specs.Evaluation.{IsRight}
use Rattle.queries.specs.declared.value.Answer.TheVariants.{Cycle}
use Rattle.queries.proofs.Memos.{fact_there}
use Rattle.queries.proofs.Paths.{cycle_top, cycle_path}
use Rattle.queries.proofs.cache.Cache.known.Goals as goal
use Rattle.queries.proofs.cache.Cache.known.Goals.{then-eq, else-eq}

pub returns-in-Some-clause-right : goal.returns-in-Some-clause-right
returns-in-Some-clause-right c sheet root is at path =
    c.in-Some.ensures.right sheet c.args.key is c.requires.stored

pub returns-clause-right : goal.returns-clause-right
returns-clause-right c sheet root is at path =
    fact_there (IsRight sheet c.args.key) c.then_some.result c.if-eq.waits (Cycle c.args.key)
    c.then_some.ensures (λ waits. elim c.if-eq.branch [
      | then-eq w ↦
          cycle_top sheet _ c.args.top.now c.args.key at c.requires.waits (ref_name c.args.handle)
          (names_same _ _ (sym ((handles_tested _ ref_name c.references_are_names.ensures.equal) c.args.top.now.handle c.args.handle)
          ∙ sym w.if-eq.ensures))
          c.requires.stored
      | else-eq w ↦
          cycle_path sheet _ c.args.top.now c.args.key at c.requires.waits root
          c.args.path.now.frames.items path (ref_name c.args.handle)
          (w.has-waits.ensures.0 (sym w.waits-is ∙ waits)) c.requires.stored
    ])
