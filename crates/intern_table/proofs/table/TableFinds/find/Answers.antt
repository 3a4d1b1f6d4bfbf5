use Rattle.std.proofs.Common.{ap, refl, ◌∙◌}
use Rattle.intern_table.specs.Hashes.{hash_of}
use Rattle.intern_index.specs.Seen.{kept_entry}
use Rattle.intern_index.proofs.Seen.{finds, finds_none}
use Rattle.intern_table.proofs.Tabled.{seen_entries}
use Rattle.intern_table.proofs.table.TableFinds.find.Goals as goal

pub returns-clause-found : goal.returns-clause-found
returns-clause-found g c =
    let v = g.O.Offer.value c.args.offer.now in
    rw c.ok_or.ensures.value (finds kept_entry (λ w n. g.T.PartialEq.eq v w) (g.T.PartialEq.eq v) (λ r. refl) c.self.inside.index _ (seen_entries c.self.view_is) (λ s. s.birth) c.find.result c.hashed-hash.result c.find.ensures.found)

pub returns-clause-none : goal.returns-clause-none
returns-clause-none g c =
    let v = g.O.Offer.value c.args.offer.now in
    rw c.ok_or.ensures.value (finds_none kept_entry (λ w n. g.T.PartialEq.eq v w) (g.T.PartialEq.eq v) (λ r. refl) c.self.inside.index _ (seen_entries c.self.view_is) (λ v. hash_of g.B.BuildHasher g.B.Hasher.Hasher c.self.inside.hasher (g.T.Hash.hash_input v)) _ (λ w e. c.hashed-hash.ensures ∙ ap (hash_of g.B.BuildHasher g.B.Hasher.Hasher c.self.inside.hasher) (g.met.T.Hash.respects_eq v w e)) _ (λ r. refl) c.self.invariant
    c.find.result c.find.ensures.none)
