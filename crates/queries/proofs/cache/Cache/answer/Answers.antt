use Rattle.queries.proofs.cache.Cache.answer.Goals as goal

pub returns-in-Some-clause-right : goal.returns-in-Some-clause-right
returns-in-Some-clause-right c =
    c.in-Some.ensures.right c.args.sheet.now c.args.root
    (c.in_ok-handle.ensures.cache c.args.sheet.now c.requires) c.in_ok-handle.ensures.stored
