-- A course over the answers that a port gave is the service of the word rule, where the history is legal.
use Rattle.std.proofs.Common.{◌≡◌, Bool, true, false, cond, ℕ, zero, suc, ◌+◌, ◌++◌, List, [], ◌∷◌, length, take, refl, ap, sym, ◌∙◌}
use Rattle.std.proofs.Common.{subst, Option, Some, None, append_assoc}
use Rattle.std.proofs.lemmas.List.{append-nil, length_push, map-append}
use Rattle.plain_lemmas.proofs.Lists.{slice_get-mid}
use Rattle.sm_types.specs.SharedOps.{is_same_op}
use Rattle.sm_types.specs.declared.shared_op.SharedOp.{SharedOp}
use Rattle.sm_types.specs.declared.config.Config.{Config}
use Rattle.sm_types.specs.declared.shared_op.Event.{Event}
use Rattle.sm_types.specs.declared.shared_words.Entry.{Entry}
use Rattle.sm_types.specs.declared.shared_words.Words.{Words}
use Rattle.sm_types.specs.declared.stop.Stop.{Stop}
use Rattle.shared_region.specs.WordRule.{answer_to, zero_words}
use Rattle.shared_region.specs.History.{event_of, entry_of, ends_in, entries_of, words_after, AnswersFrom, IsLegal}
use Rattle.kernel_contexts.specs.State.{State}
use Rattle.kernel_contexts.specs.Call.{TurnEnd, Goes, Yields, Asks, Ends}
use Rattle.kernel_contexts.specs.Turn.{turn_of}
use Rattle.core_unit.specs.Course.{Course, one_more}
use Rattle.core_unit.specs.Course.{course as course_of}
use Rattle.core_unit.specs.Course as course
use Rattle.core_unit.specs.Run.{course_at}
use Rattle.world_core.specs.Serve.{Progress, Service, Going, GaveWay, HasStopped, progress_after, service_after, served, serve, begins}
use Rattle.lone_runner.proofs.SameOps.{same_op}

take_mid : (before after : List Entry) (e : Entry) → take (length before) (before ++ e ∷ after) ≡ before
take_mid [] after e = refl
take_mid (x ∷ xs) after e = ap (λ (l : List Entry). x ∷ l) (take_mid xs after e)

-- an entry of a history whose answers are those of the word rule
legal_at : (w : Words) (before after : List Entry) (e : Entry) → AnswersFrom w (before ++ e ∷ after)
    → e.event.answer ≡ answer_to (words_after w before) e.event.op
legal_at w before after e h =
    h (length before) e (slice_get-mid before after e)
    ∙ ap (λ l. answer_to (words_after w l) e.event.op) (take_mid before after e)

module _ (config : Config) (thread : ℕ) (s : State) (stop : Option Stop) (journal : List Event) (history : List Entry)
    (made : List Event) (legal : IsLegal (history ++ entries_of thread made)) where
  abbrev pub progress : State → List Event → Progress
  progress t used = record { state = t; journal = journal ++ used; history = history ++ entries_of thread used }

  -- the service has used the answers that are not left
  abbrev pub Agrees : Course → Service → Type 0
  Agrees (course.Going t done left) service =
      (used : List Event) × (made ≡ used ++ left) × (done ≡ length (journal ++ used)) × (service ≡ Going (progress t used))
  Agrees (course.GaveWay t done left) service =
      (used : List Event) × (made ≡ used ++ left) × (done ≡ length (journal ++ used)) × (service ≡ GaveWay (progress t used))
  Agrees (course.HasStopped t at done left) service =
      (used : List Event) × (made ≡ used ++ left) × (done ≡ length (journal ++ used)) × (service ≡ HasStopped (progress t used) at)
  Agrees (course.Unanswered t done left) service = Unit {0}

  entries_mid : (used left : List Event) (e : Event) → made ≡ used ++ e ∷ left
      → history ++ entries_of thread made
      ≡ (history ++ entries_of thread used) ++ (record { thread = thread; event = e }) ∷ entries_of thread left
  entries_mid used left e is =
      ap (λ (l : List Event). history ++ entries_of thread l) is
      ∙ ap (λ (l : List Entry). history ++ l) (map-append (λ (x : Event). record { thread = thread; event = x }) used (e ∷ left))
      ∙ sym (append_assoc history (entries_of thread used) ((record { thread = thread; event = e }) ∷ entries_of thread left))

  -- an operation that the next answer is for
  asked_true : (t : State) (done : ℕ) (left used : List Event) (e : Event) (op : SharedOp) (next : ℕ → State) → made ≡ used ++ e ∷ left
      → done ≡ length (journal ++ used) → op ≡ e.op
      → Agrees (course.Going (next e.answer) (done + 1) left)
      (Going (progress_after thread (progress t used) op next (answer_to (ends_in (history ++ entries_of thread used)) op)))
  asked_true t done left used e op next is count same =
      let h = legal_at zero_words (history ++ entries_of thread used) (entries_of thread left) (record { thread = thread; event = e })
      (subst IsLegal (entries_mid used left e is) legal) in
      let q : answer_to (ends_in (history ++ entries_of thread used)) op ≡ e.answer =
      ap (answer_to (ends_in (history ++ entries_of thread used))) same ∙ sym h in
      let event : event_of op (answer_to (ends_in (history ++ entries_of thread used)) op) ≡ e =
      λ i. record { op = same i; answer = q i } in
      let grows : (journal ++ used) ++ event_of op (answer_to (ends_in (history ++ entries_of thread used)) op) ∷ []
      ≡ journal ++ (used ++ e ∷ []) =
      ap (λ (x : Event). (journal ++ used) ++ x ∷ []) event ∙ append_assoc journal used (e ∷ []) in
      let adds : (history ++ entries_of thread used) ++ entry_of thread op (answer_to (ends_in (history ++ entries_of thread used)) op) ∷ []
      ≡ history ++ entries_of thread (used ++ e ∷ []) =
      ap (λ (x : Event). (history ++ entries_of thread used) ++ (record { thread = thread; event = x }) ∷ []) event
      ∙ append_assoc history (entries_of thread used) ((record { thread = thread; event = e }) ∷ [])
      ∙ ap (λ (l : List Entry). history ++ l) (sym (map-append (λ (x : Event). record { thread = thread; event = x }) used (e ∷ []))) in
      let state : next (answer_to (ends_in (history ++ entries_of thread used)) op) ≡ next e.answer = ap next q in (
        used ++ e ∷ [],
        is ∙ sym (append_assoc used (e ∷ []) left),
        ap (λ n. n + 1) count ∙ sym (length_push (journal ++ used) e) ∙ ap (λ l. length l) (append_assoc journal used (e ∷ [])),
        ap Going (λ i. record { state = state i; journal = grows i; history = adds i }),
      )

  asked : (b : Bool) (t : State) (done : ℕ) (left used : List Event) (e : Event) (op : SharedOp) (next : ℕ → State)
      → is_same_op op e.op ≡ b → made ≡ used ++ e ∷ left → done ≡ length (journal ++ used)
      → Agrees (cond b (course.Going (next e.answer) (done + 1) left) (course.Unanswered t done (e ∷ left)))
      (Going (progress_after thread (progress t used) op next (answer_to (ends_in (history ++ entries_of thread used)) op)))
  asked true t done left used e op next test is count = asked_true t done left used e op next is count (same_op op e.op test)
  asked false t done left used e op next test is count = tt

  turned : (t : State) (done : ℕ) (left used : List Event) (end : TurnEnd) → made ≡ used ++ left → done ≡ length (journal ++ used)
      → Agrees (course.course_after t done left end) (service_after thread (progress t used) end)
  turned t done left used (Goes u) is count = (used, is, count, refl)
  turned t done left used (Yields u) is count = (used, is, count, refl)
  turned t done [] used (Asks op next) is count = tt
  turned t done (e ∷ left) used (Asks op next) is count = asked (is_same_op op e.op) t done left used e op next refl is count
  turned t done left used (Ends u at) is count = (used, is, count, refl)

  one : (c : Course) (service : Service) → Agrees c service → Agrees (one_more config thread c) (served config thread service)
  one (course.Going t done left) service h =
      let end : turn_of config thread (length (journal ++ h.0)) t ≡ turn_of config thread done t =
      ap (λ (n : ℕ). turn_of config thread n t) (sym h.2) in
      let is : served config thread service ≡ service_after thread (progress t h.0) (turn_of config thread done t) =
      ap (served config thread) h.3 ∙ ap (service_after thread (progress t h.0)) end in
      subst (Agrees (course.course_after t done left (turn_of config thread done t))) (sym is)
      (turned t done left h.0 (turn_of config thread done t) h.1 h.2)
  one (course.GaveWay t done left) service h = (h.0, h.1, h.2, ap (served config thread) h.3)
  one (course.HasStopped t at done left) service h = (h.0, h.1, h.2, ap (served config thread) h.3)
  one (course.Unanswered t done left) service h = tt

  whole : ◌≡◌ {A = Progress} (record { state = s; journal = journal; history = history }) (progress s [])
  whole =
      let j = sym (append-nil journal) in
      let l = sym (append-nil history) in
      λ i. record { state = s; journal = j i; history = l i }

  first : (at : Option Stop) → Agrees (course_at s at (length journal) made) (begins s at journal history)
  first None = (
    [],
    refl,
    ap (λ l. length l) (sym (append-nil journal)),
    ap Going whole,
  )
  first (Some at) = ([], refl, ap (λ l. length l) (sym (append-nil journal)), ap (λ p. HasStopped p at) whole)

  pub agrees : (n : ℕ) → Agrees (course_of config thread (course_at s stop (length journal) made) n)
      (serve config thread (begins s stop journal history) n)
  unfolding course_of serve
  agrees zero = first stop
  agrees (suc n) =
      one (course_of config thread (course_at s stop (length journal) made) n) (serve config thread (begins s stop journal history) n)
      (agrees n)

module _ (config : Config) (thread : ℕ) (s t : State) (stop : Option Stop) (journal : List Event) (history : List Entry)
    (made : List Event) (n done : ℕ) (legal : IsLegal (history ++ entries_of thread made)) where
  abbrev after : Progress
  after = record { state = t; journal = journal ++ made; history = history ++ entries_of thread made }

  all_used : (used : List Event) → made ≡ used ++ [] → progress config thread s stop journal history made legal t used ≡ after
  all_used used is =
      let all : used ≡ made = sym (append-nil used) ∙ sym is in
      ap (λ (l : List Event). record { state = t; journal = journal ++ l; history = history ++ entries_of thread l }) all

  agrees_at : (c : Course) → course_of config thread (course_at s stop (length journal) made) n ≡ c
      → Agrees config thread s stop journal history made legal c (serve config thread (begins s stop journal history) n)
  agrees_at c at = subst (λ d. Agrees config thread s stop journal history made legal d
      (serve config thread (begins s stop journal history) n)) at (agrees config thread s stop journal history made legal n)

  pub serves_going : course_of config thread (course_at s stop (length journal) made) n ≡ course.Going t done []
      → serve config thread (begins s stop journal history) n ≡ Going after
  serves_going at = let h = agrees_at (course.Going t done []) at in h.3 ∙ ap Going (all_used h.0 h.1)

  pub serves_way : course_of config thread (course_at s stop (length journal) made) n ≡ course.GaveWay t done []
      → serve config thread (begins s stop journal history) n ≡ GaveWay after
  serves_way at = let h = agrees_at (course.GaveWay t done []) at in h.3 ∙ ap GaveWay (all_used h.0 h.1)

  pub serves_stop : (why : Stop) → course_of config thread (course_at s stop (length journal) made) n ≡ course.HasStopped t why done []
      → serve config thread (begins s stop journal history) n ≡ HasStopped after why
  serves_stop why at = let h = agrees_at (course.HasStopped t why done []) at in h.3 ∙ ap (λ p. HasStopped p why) (all_used h.0 h.1)
