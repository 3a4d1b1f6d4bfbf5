use Rattle.std.proofs.Common.{[], ◌∷◌, ◌+◌, ◌++◌, refl, arith, ◌∙◌}
use Rattle.std.proofs.lemmas.Bool.{or_left}
use Rattle.ra_ap_intern.specs.Families.{entries_of}
use Rattle.ra_ap_intern.specs.Handle.{ref_name}
use Rattle.ra_ap_intern.specs.Reach.{Reached, starts, starts_with}
use Rattle.ra_ap_intern.proofs.CallerLemmas.{collected_reads, collected_counts, collected_root, counted_first, counted_starts, entry_first, entry_second, has_first, has_later}
use Rattle.use_roots.specs.Code.{of_word, of_class, of_method, names_in, classes_in, methods_in, entries_in, cut}
use Rattle.use_roots.proofs.collect.Goals as goal

pub returns-clause-class : goal.returns-clause-class
returns-clause-class c =
    let code = c.args.code.now in
    let class = ref_name c.args.class in
    let listed = c.name.result ∷ c.name-2.result ∷ [] in
    let names = entries_of of_word (names_in code) in
    let classes = entries_of of_class (classes_in code) in
    collected_root classes_in cut (λ p set. refl) of_class listed (entries_in code) code
    c.collect_keeping.new.family c.collect_keeping.result
    (c.collect_keeping.ensures.ok, c.collect_keeping.ensures.err) class
    (rw c.name.ensures (has_first class (c.name-2.result ∷ []))) (λ there.
    entry_first (names ++ classes) (entries_of of_method (methods_in code)) class
    (entry_second names classes class there))

pub returns-clause-method : goal.returns-clause-method
returns-clause-method c =
    let code = c.args.code.now in
    let method = ref_name c.args.method in
    let listed = c.name.result ∷ c.name-2.result ∷ [] in
    let names = entries_of of_word (names_in code) in
    let classes = entries_of of_class (classes_in code) in
    collected_root methods_in cut (λ p set. refl) of_method listed (entries_in code) code
    c.collect_keeping.new.family c.collect_keeping.result
    (c.collect_keeping.ensures.ok, c.collect_keeping.ensures.err) method
    (rw c.name-2.ensures (has_later c.name.result method (method ∷ []) (has_first method [])))
    (entry_second (names ++ classes) (entries_of of_method (methods_in code)) method)

pub returns-clause-reached : goal.returns-clause-reached
returns-clause-reached c n path =
    let code = c.args.code.now in
    let begins = starts_with (c.name.result ∷ c.name-2.result ∷ []) (entries_in code) in
    let path : Reached begins (entries_in code) n = rw (c.name.ensures, c.name-2.ensures) path in
    let after = c.collect_keeping.new.family in
    let result = c.collect_keeping.result in
    let ok = c.collect_keeping.ensures.ok in
    let err = c.collect_keeping.ensures.err in (
      collected_reads names_in cut (λ p set. refl) begins _ code after result (ok, err) n path,
      collected_reads classes_in cut (λ p set. refl) begins _ code after result (ok, err) n path,
      collected_reads methods_in cut (λ p set. refl) begins _ code after result (ok, err) n path,
    )

pub returns-clause-counted : goal.returns-clause-counted
returns-clause-counted c n count at =
    let code = c.args.code.now in
    let begins = starts_with (c.name.result ∷ c.name-2.result ∷ []) (entries_in code) in
    let names = entries_of of_word (names_in code) in
    let classes = entries_of of_class (classes_in code) in
    let path : Reached begins (entries_in code) n = (
      [],
      or_left (starts (entries_in code) n) _
          (counted_first (names ++ classes) (entries_of of_method (methods_in code)) n
          (counted_first names classes n
          (counted_starts of_word (names_in code) n (count + 1) at (omega arith)))),
    ) in
    let after = c.collect_keeping.new.family in
    let result = c.collect_keeping.result in
    let ok = c.collect_keeping.ensures.ok in
    let err = c.collect_keeping.ensures.err in (
      collected_reads names_in cut (λ p set. refl) begins _ code after result (ok, err) n path,
      collected_counts names_in cut (λ p set. refl) begins _ code after result (ok, err) n path ∙ at,
    )
