use Rattle.std.proofs.Common.{List, ◌∷◌, ◌++◌, [], None, Some, refl, sym, ap, subst, ◌∙◌, arith}
use Rattle.std.specs.Prelude.{All}
use Rattle.ra_ap_intern.specs.Handle.{ref_name}
use Rattle.ra_ap_intern.specs.Interning.{ReadsOn}
use Rattle.ra_ap_intern.specs.State.{State}
use Rattle.queries.specs.declared.key.Key.{Key}
use Rattle.queries.specs.declared.path.Frame.{Frame}
use Rattle.queries.specs.Cache.{IsCache}
use Rattle.queries.specs.Evaluation.{Evaluates, IsRight, LeadsToCycle}
use Rattle.queries.specs.Path.{GoesOn, IsFrame, IsPath, IsStuck, WaitsFor}
use Rattle.queries.specs.Sheet.{Formulas, reads_of}
use Rattle.queries.specs.Steps.{IsNearer, is_begun, steps_left}
use Rattle.queries.proofs.Paths.{frame_on, frame_take, path_on, path_push, stuck_top, stuck_path, stuck_first}
use Rattle.queries.proofs.Steps.{nearer_open, nearer_stored, nearer_take, next_reachable, not_begun}
use Rattle.queries.proofs.cache.Cache.advance.Goals as goal
use Rattle.queries.proofs.cache.Cache.advance.Goals.{After-give_up}

-- where a query that is waited for leads to a cycle, all that wait do
all_stuck : (sheet : Formulas) (old new : State Key) → ReadsOn old new
    → (top : Frame) (key through first : Key) (frames : List Frame)
    → IsFrame sheet old top → WaitsFor top key → IsPath sheet old first frames top.key
    → (IsFrame sheet new top → IsPath sheet new first frames top.key → LeadsToCycle sheet key through)
    → IsStuck sheet new through top × All (IsStuck sheet new through) frames
all_stuck sheet old new on top key through first frames is waits before cycle =
    let frame = frame_on sheet old new on top is in
    let path = path_on sheet old new on first top.key frames before in (
      stuck_top sheet new top key frame waits first frames path through (cycle frame path),
      stuck_path sheet new top key frame waits first frames path through (cycle frame path),
    )

pub returns-in_ok-push-in-Some-Value-clause-goes_on : goal.returns-in_ok-push-in-Some-Value-clause-goes_on
returns-in_ok-push-in-Some-Value-clause-goes_on c root at =
    let sheet = c.args.sheet.now in
    let key = c.in-Some.key in
    let on = c.in_ok-handle.ensures.on in
    let is = c.in_ok-handle.ensures.cache sheet c.requires.cache in
    let path = path_on sheet _ _ on root c.args.top.now.key c.args.path.now.frames.items at in
    let frame = frame_on sheet _ _ on c.args.top.now c.requires.frame in
    let waits : WaitsFor c.args.top.now key = sym c.in-Some.ensures in
    let right = c.in-Some-Value.ensures.right sheet root is frame path in (
      frame_take sheet c.handle.new.self.keys c.args.top.now (record c.args.top.now { values = c.push.new.self })
          key _ frame waits
          (subst (Evaluates sheet key) (sym c.in-Some-Value.value-is)
          (subst (IsRight sheet key) c.in-Some-Value.field-0-is right))
          refl refl refl c.in_ok-push-in-Some-Value.ensures.items,
      path,
    )

pub returns-in_ok-push-in-Some-Value-clause-nearer : goal.returns-in_ok-push-in-Some-Value-clause-nearer
returns-in_ok-push-in-Some-Value-clause-nearer c root path =
    let sheet = c.args.sheet.now in
    let fs = c.args.path.now.frames.items in
    let all = c.args.top.now ∷ fs in
    let later : Frame = record c.args.top.now { values = c.push.new.self } in
    let waits : WaitsFor c.args.top.now c.in-Some.key = sym c.in-Some.ensures in
    let less = nearer_stored sheet root c.args.self.now c.handle.new.self all (c.in_ok-handle.ensures.begun all) in
    let one = nearer_take sheet root c.handle.new.self c.args.top.now later fs c.in-Some.key _
    waits refl refl c.in_ok-push-in-Some-Value.ensures.items in
    omega arith

-- where all that wait are given up, whether or not there was memory for each
given_up : (c : After-give_up) → IsCache c.args.sheet.now c.give_up.new.self
given_up c =
    let sheet = c.args.sheet.now in
    let key = c.in-Some.key in
    let is = c.in_ok-handle.ensures.cache sheet c.requires.cache in
    let first = c.requires.path.0 in
    let stuck = all_stuck sheet _ _ c.in_ok-handle.ensures.on c.args.top.now key _ first _ c.requires.frame
    (sym c.in-Some.ensures) c.requires.path.1 (λ frame path.
    subst (LeadsToCycle sheet key) (sym c.in-Some-Cycle.through-is)
    (subst (IsRight sheet key) c.in-Some-Cycle.field-0-is
    (c.in-Some-Cycle.ensures.right sheet first is frame path))) in
    c.give_up.ensures.cache sheet is stuck.0 stuck.1

pub returns-in_err-give_up-in-Some-Cycle-clause-cache : goal.returns-in_err-give_up-in-Some-Cycle-clause-cache
returns-in_err-give_up-in-Some-Cycle-clause-cache c =
    given_up (goal.at.returns-in_err-give_up-in-Some-Cycle-clause-cache c).After-give_up

pub returns-in_ok-give_up-in-Some-Cycle-clause-cache : goal.returns-in_ok-give_up-in-Some-Cycle-clause-cache
returns-in_ok-give_up-in-Some-Cycle-clause-cache c =
    given_up (goal.at.returns-in_ok-give_up-in-Some-Cycle-clause-cache c).After-give_up

pub returns-in_ok-give_up-in-Some-Cycle-clause-goes_on : goal.returns-in_ok-give_up-in-Some-Cycle-clause-goes_on
returns-in_ok-give_up-in-Some-Cycle-clause-goes_on c root at =
    let sheet = c.args.sheet.now in
    let key = c.in-Some.key in
    let on = c.in_ok-handle.ensures.on in
    let is = c.in_ok-handle.ensures.cache sheet c.requires.cache in
    let path = path_on sheet _ _ on root c.args.top.now.key c.args.path.now.frames.items at in
    let frame = frame_on sheet _ _ on c.args.top.now c.requires.frame in
    let waits : WaitsFor c.args.top.now key = sym c.in-Some.ensures in
    let cycle = subst (LeadsToCycle sheet key) (sym c.in-Some-Cycle.through-is)
    (subst (IsRight sheet key) c.in-Some-Cycle.field-0-is
    (c.in-Some-Cycle.ensures.right sheet root is frame path)) in
    stuck_first sheet _ c.args.top.now key frame waits root _ path _ cycle

pub returns-in_ok-push-in-None-clause-goes_on : goal.returns-in_ok-push-in-None-clause-goes_on
returns-in_ok-push-in-None-clause-goes_on c root path =
    let sheet = c.args.sheet.now in
    let key = c.in-Some.key in
    let on = c.in_ok-handle.ensures.on in
    let opened = c.in_ok-opened-in-None in
    let waits : WaitsFor c.args.top.now key = sym c.in-Some.ensures in
    let pushed = path_push sheet c.handle.new.self.keys c.args.path.now.frames.items root c.args.top.now key
    (path_on sheet _ _ on root c.args.top.now.key c.args.path.now.frames.items path)
    (frame_on sheet _ _ on c.args.top.now c.requires.frame) waits in
    let frames = c.in_ok-push-in-None.ensures ∙ ap (λ f. c.args.path.now.frames.items ++ f ∷ []) c.replace.ensures.value in
    subst (λ top. GoesOn sheet c.handle.new.self.keys root top c.push-in-None.new.self.frames.items None)
    (sym c.replace.ensures.after) (
      opened.ensures.frame,
      subst (λ frames. IsPath sheet c.handle.new.self.keys root frames opened.opened.key) (sym frames)
          (subst (IsPath sheet c.handle.new.self.keys root _) (sym opened.ensures.key) pushed),
    )

pub returns-in_ok-push-in-None-clause-nearer : goal.returns-in_ok-push-in-None-clause-nearer
returns-in_ok-push-in-None-clause-nearer c root path =
    let sheet = c.args.sheet.now in
    let key = c.in-Some.key in
    let stored = c.handle.new.self in
    let fs = c.args.path.now.frames.items in
    let all = c.args.top.now ∷ fs in
    let on = c.in_ok-handle.ensures.on in
    let opened = c.in_ok-opened-in-None in
    let waits : WaitsFor c.args.top.now key = sym c.in-Some.ensures in
    let less = nearer_stored sheet root c.args.self.now stored all (c.in_ok-handle.ensures.begun all) in
    let among = next_reachable sheet root stored.keys fs c.args.top.now key
    (path_on sheet _ _ on root c.args.top.now.key fs path)
    (frame_on sheet _ _ on c.args.top.now c.requires.frame) waits in
    let handle = opened.ensures.handle in
    let isnt = not_begun stored c.args.top.now fs (ref_name c.in_ok-handle.handle)
    (λ known. let no = c.in-None.ensures.known.1 known in absurd (cc)) in
    let wants = opened.ensures.frame.wants ∙ ap (reads_of sheet) opened.ensures.key in
    let frames = c.in_ok-push-in-None.ensures ∙ ap (λ f. fs ++ f ∷ []) c.replace.ensures.value in
    let one = nearer_open sheet root stored c.args.top.now opened.opened fs c.push-in-None.new.self.frames.items
    key frames c.in_ok-handle.ensures.keyed
    (c.in_ok-handle.ensures.found ∙ ap (λ h. Some (ref_name h)) (sym handle))
    (ap (λ h. is_begun stored all (Some (ref_name h))) handle ∙ isnt) wants opened.ensures.values among in
    subst (λ top. IsNearer sheet root c.handle.new.self (top ∷ c.push-in-None.new.self.frames.items)
    (steps_left sheet root c.args.self.now all) None) (sym c.replace.ensures.after) (omega arith)
