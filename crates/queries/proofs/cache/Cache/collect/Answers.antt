use Rattle.std.proofs.Common.{is_some, refl, subst, rules}
use Rattle.std.proofs.lemmas.Map.Made.{filter_same_pairs}
use Rattle.ra_ap_intern.specs.Families.{IsCollection}
use Rattle.ra_ap_intern.specs.Handle.{ref_name}
use Rattle.ra_ap_intern.specs.Names.{has}
use Rattle.ra_ap_intern.specs.Reach.{starts_with}
use Rattle.ra_ap_intern.specs.State.{reads}
use Rattle.ra_ap_intern.proofs.CallerLemmas.{listed_singly, names_retained}
use Rattle.queries.specs.Cache.{queries_of}
use Rattle.queries.proofs.Memos.{memos_kept}
use Rattle.queries.proofs.cache.Cache.collect.Goals as goal

pub returns-clause-ok : goal.returns-clause-ok
returns-clause-ok c =
    let kept = c.in_ok-collected.ensures.ok in
    let queries = queries_of c.args.self.now.keys in record {
      names = kept.0;
      told = c.in_ok-collected.collected;
      reached = subst
          (λ l. IsCollection (starts_with l queries) queries kept.0 c.in_ok-collected.collected)
          (listed_singly ref_name c.args.needed.now) kept.1;
      keys = kept.2;
      count = refl;
      memos = λ h. names_retained
          (λ n. is_some (reads c.collect_from.new.family n)) c.args.self.now.memos c.retain.new.self
          (filter_same_pairs _ (λ e. is_some (reads c.collect_from.new.family (ref_name e.0))) _
          (λ k v b w f' t. search rules) _ _ c.retain.ensures.filtered) (ref_name h);
    }

pub returns-clause-right : goal.returns-clause-right
returns-clause-right c sheet is =
    let kept = returns-clause-ok c in
    memos_kept sheet c.args.self.now.keys c.collect_from.new.family _ c.args.self.now.memos
    c.retain.new.self (has kept.names) is kept.keys kept.memos
