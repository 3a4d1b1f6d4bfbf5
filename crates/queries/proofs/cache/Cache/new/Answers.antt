use Rattle.queries.proofs.Memos.{memos_none}
use Rattle.queries.proofs.cache.Cache.new.Goals as goal

pub returns-clause-cache : goal.returns-clause-cache
returns-clause-cache c sheet = memos_none sheet _ _ c.new-2.result c.new-2.ensures.empty
