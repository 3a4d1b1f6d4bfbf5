use Rattle.std.proofs.Common.{ap, refl, ◌∙◌}
use Rattle.intern_table.specs.Hashes.{hash_of}
use Rattle.intern_index.specs.Seen.{kept_entry}
use Rattle.intern_index.proofs.Seen.{found, unfound}
use Rattle.intern_table.proofs.Tabled.{seen_entries}
use Rattle.intern_table.proofs.table.TableSeeks.seek.Goals as goal

pub returns-clause-found : goal.returns-clause-found
returns-clause-found g c =
    let test = g.Q.Equivalent.equivalent c.args.query.now in
    found kept_entry (λ w n. test w) test (λ r. refl) c.self.inside.index _ (seen_entries c.self.view_is) (λ s. s.birth) c.find.result c.find.ensures.found

pub returns-clause-none : goal.returns-clause-none
returns-clause-none g c =
    let test = g.Q.Equivalent.equivalent c.args.query.now in
    let hash_by = hash_of g.B.BuildHasher g.B.Hasher.Hasher c.self.inside.hasher in
    unfound kept_entry (λ w n. test w) test (λ r. refl) c.self.inside.index _ (seen_entries c.self.view_is) (λ v. hash_by (g.T.Hash.hash_input v)) _ (λ w e. c.hash_value-hash.ensures ∙ ap hash_by (g.met.Q.Equivalent.respects_hash c.args.query.now w e)) _ (λ r. refl) c.self.invariant c.find.result c.find.ensures.none
