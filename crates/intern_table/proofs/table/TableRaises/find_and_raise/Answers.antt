use Rattle.std.proofs.Common.{ap, sym, refl, ◌∙◌}
use Rattle.intern_store.specs.Kept.{raised}
use Rattle.intern_table.specs.Hashes.{hash_of}
use Rattle.intern_index.specs.Seen.{kept_entry}
use Rattle.intern_store.proofs.Maps.{read_seen}
use Rattle.intern_index.proofs.Seen.{changed_seen, entries_repaid, finds, finds_none, found_led, some_then}
use Rattle.intern_table.proofs.Tabled.{seen_entries}
use Rattle.intern_table.proofs.table.TableRaises.find_and_raise.Goals as goal

pub invariant_of-self : goal.invariant_of-self
invariant_of-self g c =
    found_led _ (raised _) (λ v n. refl) _ _
    (λ r. r.0.birth) c.find_and_change.result c.find_and_change.ensures.state c.find_and_change.ensures.same c.self.invariant

pub returns-clause-found : goal.returns-clause-found
returns-clause-found g c =
    let v = g.O.Offer.value c.args.offer.now in
    rw c.ok_or.ensures.value (finds kept_entry (λ w n. g.T.PartialEq.eq v w) (g.T.PartialEq.eq v) (λ r. refl) c.self.inside.index _ (seen_entries c.self.view_is) (λ r. r.0.birth) c.find_and_change.result c.hashed-hash.result c.find_and_change.ensures.found)

pub returns-clause-count : goal.returns-clause-count
returns-clause-count g c =
    rw c.ok_or.ensures.value (some_then c.find_and_change.result c.hashed-hash.result
    (λ r before. sym (read_seen kept_entry _ _ (seen_entries c.self.view_is) (λ e. e.count) r.0.birth) ∙ before) c.find_and_change.ensures.payload)

pub returns-clause-state : goal.returns-clause-state
returns-clause-state g c =
    rw c.ok_or.ensures.value (some_then c.find_and_change.result c.hashed-hash.result
    (λ r raises. changed_seen kept_entry (raised c.args.top) (raised c.args.top) (λ r. refl) _ _ _ r.0.birth (seen_entries c.self.view_is) (entries_repaid _ _ _ _ raises)) c.find_and_change.ensures.state)

pub returns-clause-none : goal.returns-clause-none
returns-clause-none g c =
    let v = g.O.Offer.value c.args.offer.now in
    rw c.ok_or.ensures.value (finds_none kept_entry (λ w n. g.T.PartialEq.eq v w) (g.T.PartialEq.eq v) (λ r. refl) c.self.inside.index _ (seen_entries c.self.view_is) (λ v. hash_of g.B.BuildHasher g.B.Hasher.Hasher c.self.inside.hasher (g.T.Hash.hash_input v)) _ (λ w e. c.hashed-hash.ensures ∙ ap (hash_of g.B.BuildHasher g.B.Hasher.Hasher c.self.inside.hasher) (g.met.T.Hash.respects_eq v w e)) _ (λ r. refl) c.self.invariant
    c.find_and_change.result c.find_and_change.ensures.none)
