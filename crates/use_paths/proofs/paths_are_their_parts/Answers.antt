use Rattle.std.proofs.lemmas.Bool.{and_parts, and_from}
use Rattle.ra_ap_intern.proofs.CallerLemmas.{optional_names}
use Rattle.use_paths.specs.declared.Path.TheVariants.{Within', outs-Within'}
use Rattle.use_paths.proofs.paths_are_their_parts.Goals as goal

pub returns : goal.returns
returns c (Within' i j a) (Within' k l b) =
    let parents = optional_names _ _ in
    let names = c.symbol_references_are_what_they_name.ensures.equal a b in
    rw (outs-Within' i j a, outs-Within' k l b) (
      λ is. let both = and_parts _ _ is in (parents.0 both.0, names.0 both.1),
      λ is. and_from _ _ (parents.1 is.0) (names.1 is.1),
    )
