use Rattle.std.proofs.Common.{◌≡◌, ◌+◌, None, refl, sym, ◌∙◌, rules}
use Rattle.ra_ap_intern.specs.Handle.{ref_name}
use Rattle.ra_ap_intern.specs.Named.{same_name}
use Rattle.ra_ap_intern.proofs.CallerLemmas.{handles_tested, map_changed, same_names}
use Rattle.queries.specs.declared.key.Key.TheVariants.{Cell}
use Rattle.queries.proofs.Equal.{keys_alike}
use Rattle.queries.proofs.Memos.{found_one, found_none, memos_edited, none_here, none_elsewhere}
use Rattle.queries.proofs.cache.Cache.raise.Goals as goal

pub returns-in-Some-clause-cache : goal.returns-in-Some-clause-cache
returns-in-Some-clause-cache c old new is others =
    let keys = c.args.self.now.keys in
    let alike = keys_alike in
    let more : c.in_ok-self.field-0 ≡ c.args.self.now.revision + 1 = search rules in
    let changed = map_changed _ same_name ref_name (handles_tested _ ref_name c.references_are_names.ensures.equal) c.args.self.now.memos
    c.remove.new.self c.in-Some.handle None c.remove.ensures.updates.0 in
    memos_edited old new c.args.place others keys keys c.args.self.now.revision c.in_ok-self.field-0
    c.args.self.now.memos c.remove.new.self refl more is
    (λ h read. changed h ∙ none_here _ _ (same_names _ _ (found_one _ alike keys
    c.number-number.ensures.state (Cell c.args.place) (ref_name c.in-Some.handle) (ref_name h)
    c.in-Some.ensures read)))
    (λ h memo at. none_elsewhere _ _ memo (sym (changed h) ∙ at))

pub returns-in_default-clause-cache : goal.returns-in_default-clause-cache
returns-in_default-clause-cache c old new is others =
    let keys = c.args.self.now.keys in
    let alike = keys_alike in
    let more : c.in_ok-self.field-0 ≡ c.args.self.now.revision + 1 = search rules in
    memos_edited old new c.args.place others keys keys c.args.self.now.revision c.in_ok-self.field-0
    c.args.self.now.memos c.args.self.now.memos refl more is
    (λ h read. absurd (found_none _ alike keys c.number-number.ensures.state (Cell c.args.place)
    (ref_name h) c.in_default.ensures read))
    (λ h memo at. at)
