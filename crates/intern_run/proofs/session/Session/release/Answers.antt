use Rattle.std.proofs.Common.{◌≡◌, Some, ap, ◌∙◌, rules}
use Rattle.std.specs.Prelude.{slice_set}
use Rattle.ra_ap_intern.specs.Handle.{name_of}
use Rattle.intern_run.proofs.Names.{emptied_again, put_again}
use Rattle.intern_run.proofs.session.Session.release.Goals as goal

pub returns-in_err-handle : goal.returns-in_err-handle
returns-in_err-handle c =
    let slots : c.take.new.self ≡ c.self.inside.slots =
    c.take.ensures.slots ∙ emptied_again _ c.in_ok-n.n c.in_err-handle.ensures.handle.0 in
    rw slots (search rules)

pub returns-in-Err : goal.returns-in-Err
returns-in-Err c =
    let n = c.in_ok-n.n in
    let h = c.in_ok-handle.handle in
    let slots : c.put_back.new.self ≡ c.self.inside.slots =
    c.put_back.ensures ∙ ap (λ back. slice_set c.take.new.self n (Some (name_of back))) c.in-Err.ensures.refused.1
    ∙ ap (λ left. slice_set left n (Some (name_of h))) c.take.ensures.slots ∙ put_again _ n _ c.in_ok-handle.ensures.handle in
    rw slots (search rules)
