use Rattle.std.proofs.Common.{Some}
use Rattle.ra_ap_intern.specs.Handle.{ref_name}
use Rattle.ra_ap_intern.proofs.CallerLemmas.{names_changed}
use Rattle.queries.specs.Cache.{memo_now}
use Rattle.queries.proofs.Memos.{memo_put}
use Rattle.queries.proofs.cache.Cache.put.Goals as goal

pub returns-clause-memos : goal.returns-clause-memos
returns-clause-memos c =
    names_changed _ c.references_are_names.ensures.equal c.args.self.now.memos c.insert.new.self
    c.args.handle (Some (memo_now c.args.answer c.args.values c.args.self.now.revision))
    c.in_ok-insert.ensures.updates.0

pub returns-clause-cache : goal.returns-clause-cache
returns-clause-cache c sheet is one =
    memo_put sheet _ _ c.args.self.now.memos c.insert.new.self c.args.handle
    (memo_now c.args.answer c.args.values c.args.self.now.revision) is one
    (λ h. returns-clause-memos c (ref_name h))
