use Rattle.std.proofs.Common.{◌≡◌, ◌⊎◌, inl, inr, ℕ, ◌+◌, ◌<◌, ◌≤◌, true, List, length, Option, Some, None, sym, ap, subst, ◌∙◌, arith}
use Rattle.std.specs.List.{slice_get, slice_index_or}
use Rattle.std.specs.Option.{option_map}
use Rattle.std.proofs.Math.Nat.{eq-or-lt_of_le}
use Rattle.std.proofs.lemmas.Option.{get_or_from_slice_get, slice_get-get_or}
use Rattle.ra_ap_intern.specs.Names.{has}
use Rattle.ra_ap_intern.specs.Name.{Name}
use Rattle.ra_ap_intern.specs.Sliced.{Sliced}
use Rattle.ra_ap_intern.specs.declared.symbol.Symbol.{Symbol}
use Rattle.intern_terms.specs.Handle.{term_name}
use Rattle.intern_terms.specs.Walk.{AreFound, items_of}
use Rattle.intern_terms.specs.declared.handle.TermRef.{TermRef}
use Rattle.intern_terms.proofs.store.TermStore.first_unfound.Goals as goal

items_read : (o : Option (Sliced Symbol TermRef)) (xs : List TermRef)
    → Some xs ≡ option_map (λ v. v.items) o → xs ≡ items_of o
items_read None xs is = absurd (cc)
items_read (Some v) xs is = cc

one_more : (found : List Name) (items : List TermRef) (from to : ℕ) (d : TermRef)
    → AreFound found items from to → has found (term_name (slice_index_or items to d)) ≡ true
    → AreFound found items from (to + 1)
one_more found items from to d all here k a low high at = go (eq-or-lt_of_le most)
  where
    most : k ≤ to
    most = omega arith

    go : (k ≡ to) ⊎ (k < to) → has found (term_name a) ≡ true
    go (inr less) = all k a low less at
    go (inl same) =
        let there : slice_get items to ≡ Some a = subst (λ i. slice_get items i ≡ Some a) same at in
        subst (λ x. has found (term_name x) ≡ true) (get_or_from_slice_get items to a d there) here

pub loop-index-init : goal.loop-index-init
loop-index-init g c = λ k a low high at. absurd (omega arith)

pub loop-index-preserved : goal.loop-index-preserved
loop-index-preserved g c =
    let same = items_read _ _ c.in_ok-args.ensures in
    let i = c.loop-index.index in
    let from = c.args.top.found in
    let before = subst (λ xs. AreFound c.args.found.now xs from i) (sym same) c.loop-index.invariant in
    let here = sym c.contains.ensures ∙ c.if-not-contains.false in
    subst (λ xs. AreFound c.args.found.now xs from (i + 1)) same
    (one_more c.args.found.now c.in_ok-args.args.now from i _ before here)

pub returns-then-not-contains-clause-some : goal.returns-then-not-contains-clause-some
returns-then-not-contains-clause-some g c =
    let same = items_read _ _ c.in_ok-args.ensures in
    let within : c.loop-index.index < length c.in_ok-args.args.now = omega arith in (
      ap (λ xs. slice_get xs c.loop-index.index) (sym same)
          ∙ slice_get-get_or c.in_ok-args.args.now c.loop-index.index _ within,
      sym c.contains.ensures ∙ c.if-not-contains.true,
      c.loop-index.invariant,
    )

pub returns-clause-none : goal.returns-clause-none
returns-clause-none g c = λ k a low high at.
    let size = ap length (items_read _ _ c.in_ok-args.ensures) in
    c.loop-index.invariant k a low (omega arith) at
