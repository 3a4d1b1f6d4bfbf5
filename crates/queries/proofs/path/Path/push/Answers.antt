use Rattle.std.proofs.Common.{◌≡◌, Bool, true, false, cond, List, [], ◌∷◌, ◌++◌, refl, sym, ◌∙◌}
use Rattle.std.specs.HashSet.{HashSet, contains_by}
use Rattle.std.specs.Prelude.{All}
use Rattle.std.proofs.lemmas.List.Elements.{All-push, All-same, All-weaker}
use Rattle.ra_ap_intern.specs.Handle.{ref_name}
use Rattle.ra_ap_intern.specs.Named.{same_name}
use Rattle.ra_ap_intern.proofs.CallerLemmas.{handles_tested}
use Rattle.queries.specs.Cache.{Handle}
use Rattle.queries.specs.declared.path.Frame.{Frame}
use Rattle.queries.proofs.path.Path.push.Goals as goal

true_still : (b x : Bool) → x ≡ true → cond b true x ≡ true
true_still true x is = refl
true_still false x is = is

pushed_all : (P : Frame → Type 0) (pushed : Bool) (frames : List Frame) (frame : Frame)
    → All P frames → P frame → All P (cond pushed (frames ++ frame ∷ []) frames)
pushed_all P true frames frame all is = All-push P frames frame all is
pushed_all P false frames frame all is = all

module _ {S : Type 0} (eq : Handle → Handle → Bool)
    (same : (a b : Handle) → eq a b ≡ same_name (ref_name a) (ref_name b)) where
  -- a handle more was noted
  noted_more : (old new : HashSet Handle S) (key : Handle)
      → ((q : Handle) → contains_by (eq q) new ≡ cond (eq key q) true (contains_by (eq q) old))
      → (f : Frame) → contains_by (λ r. same_name (ref_name f.handle) (ref_name r)) old ≡ true
      → contains_by (λ r. same_name (ref_name f.handle) (ref_name r)) new ≡ true
  noted_more old new key put f is =
      (λ i. contains_by (λ r. sym (same f.handle r) i) new) ∙ put f.handle
      ∙ true_still (eq key f.handle) (contains_by (eq f.handle) old)
      ((λ i. contains_by (λ r. same f.handle r i) old) ∙ is)

pub invariant_of-self-2 : goal.invariant_of-self-2
invariant_of-self-2 c =
    let P : Frame → Type 0 = λ f.
    contains_by (λ r. same_name (ref_name f.handle) (ref_name r)) c.insert.new.self ≡ true in
    let same = (handles_tested _ ref_name c.references_are_names.ensures.equal) in
    let before : All P c.args.self.now.frames.items =
    All-weaker _ P (noted_more _ same c.args.self.now.waited c.insert.new.self c.args.frame.handle
    c.in_ok-insert.ensures.updates.0) c.args.self.now.frames.items c.args.self.now.noted in
    let itself : P c.args.frame =
    (λ i. contains_by (λ r. sym (same c.args.frame.handle r) i) c.insert.new.self)
    ∙ c.in_ok-insert.ensures.updates.1 in record {
      noted = All-same P c.push.new.self.items _ c.push.ensures.items
          (pushed_all P _ c.args.self.now.frames.items c.args.frame before itself);
    }
