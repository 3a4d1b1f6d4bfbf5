use Rattle.std.proofs.Common.{◌≡◌, ◌↔◌, List, true, IsTrue, subst, ◌∙◌}
use Rattle.std.specs.HashSet.{HashSet, contains_by}
use Rattle.std.specs.Prelude.{All, Any}
use Rattle.ra_ap_intern.specs.Handle.{ref_name}
use Rattle.ra_ap_intern.specs.Name.{Name}
use Rattle.ra_ap_intern.specs.Named.{same_name}
use Rattle.ra_ap_intern.proofs.CallerLemmas.{handles_tested}
use Rattle.queries.specs.Cache.{Handle}
use Rattle.queries.specs.declared.path.Frame.{Frame}
use Rattle.queries.proofs.path.Path.has.Goals as goal

-- the handle of a query that waits was noted
noted : {S : Type 0} (waited : HashSet Handle S) (frames : List Frame) (name : Name)
    → All (λ (f : Frame). contains_by (λ r. same_name (ref_name f.handle) (ref_name r)) waited ≡ true) frames
    → Any (λ (f : Frame). ref_name f.handle ≡ name) frames
    → contains_by (λ r. same_name name (ref_name r)) waited ≡ true
noted waited frames name all any =
    subst (λ n. contains_by (λ r. same_name n (ref_name r)) waited ≡ true) any.4
    (subst (λ (f : Frame). contains_by (λ r. same_name (ref_name f.handle) (ref_name r)) waited ≡ true)
    any.3 (all any.0 any.1 any.2))

pub returns-then-contains : goal.returns-then-contains
returns-then-contains c =
    subst (λ l. IsTrue c.is_among.result ↔ Any (λ (f : Frame). ref_name f.handle ≡ ref_name c.args.handle) l)
    c.deref.ensures.value c.is_among.ensures

pub returns-else-contains : goal.returns-else-contains
returns-else-contains c = (
  λ is. absurd (cc),
  λ any.
      let found = noted c.args.self.now.waited c.args.self.now.frames.items (ref_name c.args.handle)
      c.args.self.now.noted any in
      c.contains.ensures
      ∙ (λ i. contains_by (λ r. (handles_tested _ ref_name c.references_are_names.ensures.equal) c.args.handle r i) c.args.self.now.waited)
      ∙ found,
)
