use Rattle.std.proofs.Common.{◌≡◌, ◌∙◌, ◌↔◌, Some, [], ◌∷◌, length, map, slice_get, sym, ap, subst, rules}
use Rattle.std.proofs.lemmas.List.{map-append}
use Rattle.types.specs.Founded.{IsFounded, known_type, known_types}
use Rattle.types.specs.declared.unknowns.Known.TheVariants as known
use Rattle.types.proofs.Founded.{founded_added}
use Rattle.types.proofs.Unifying.{added_last, added_knows}
use Rattle.types.proofs.unknowns.Unknowns.add.Goals as goal

pub returns-clause-level : goal.returns-clause-level
returns-clause-level c =
    let number : c.len-number.result ≡ length c.args.self.now.known.items = search rules in
    ap (slice_get c.push.new.self.items) number ∙ ap (λ xs. slice_get xs (length c.args.self.now.known.items)) c.in_ok-push.ensures.items
    ∙ added_last c.args.level c.args.self.now.known.items

pub returns-clause-nothing : goal.returns-clause-nothing
returns-clause-nothing c = (c.args.level, returns-clause-level c)

pub returns-clause-known : goal.returns-clause-known
returns-clause-known c n handle =
    subst (λ xs. (slice_get xs n ≡ Some (known.Is handle)) ↔ (slice_get c.args.self.now.known.items n ≡ Some (known.Is handle)))
    (sym c.in_ok-push.ensures.items) (added_knows c.args.level c.args.self.now.known.items n handle)

pub returns-clause-founded : goal.returns-clause-founded
returns-clause-founded c s founded =
    subst (IsFounded s)
    (sym (ap (map known_type) c.in_ok-push.ensures.items
    ∙ map-append known_type c.args.self.now.known.items (known.Nothing c.args.level ∷ [])))
    (founded_added s (known_types c.args.self.now) founded)
