-- From what a command's functions say to what the command promises.
use Rattle.std.proofs.Common.{◌≡◌, ◌⊎◌, inl, inr, ℕ, List, [], ◌∷◌, ◌++◌, false, true, refl, sym, ◌∙◌, ap, subst, arith, Option, Some, None}
use Rattle.std.proofs.Common.{Result, Ok, Err}
use Rattle.std.specs.Prelude.{IfErr, IfOk, IfSome, IsSome, IsErr}
use Rattle.plain_lemmas.proofs.Options.{none_not_some, IsSome_from}
use Rattle.sm_types.specs.declared.numbers.Numbers.{Numbers}
use Rattle.cmd_words.specs.Words as usage
use Rattle.cmd_words.specs.Words.{Argument, Request, usage_fault, command_of}
use Rattle.cmd_words.specs.declared.command.UsageKind.{UsageKind}
use Rattle.cmd_words.specs.declared.verb.Verb.{Verb}
use Rattle.cmd_words.proofs.Law.{reading}
use Rattle.edge_io.specs.Files.{Told, FilesView}
use Rattle.edge_io.specs.Sink.{SinkView, Writes}
use Rattle.edge_io.specs.declared.sink.PutFault.{PutFault}
use Rattle.edge_io.specs.declared.sink.PutFault.TheVariants.{Failed}
use Rattle.command_lines.specs.declared.status.Status.{Status}
use Rattle.command_lines.specs.declared.status.Status.TheVariants.{Done, Usage, Absent, ReadFault, WriteFault, OutOfMemory}
use Rattle.smemu.specs.Answers.{IsOutcome, IsTold, IsToldBy, MayEnd, Telling, Tells, Never, outcomes_of}
use Rattle.smemu.specs.Ends.{Change, Call, Defined, IsUsage, IsRejection, IsComplete, IsDone, IsDue, IsDueOf, IsRefused, MayCome}
use Rattle.smemu.specs.Ends.{FetchesReached}
use Rattle.smemu.specs.Ends.{Stands}
use Rattle.smemu.specs.Rejections.{Judge, judge_of, rejection_status}
use Rattle.smemu.specs.Requests.{Named, files_named, reached_asked, reached_of, IsAmong, due_of_rejection, due_of_file, due_of_files}
use Rattle.smemu.specs.Requests.{due_of_request}
use Rattle.smemu.specs.Threads.{takes_threads}
use Rattle.smemu.specs.Views.{answer_text, refusal_status, refusal_text, end_status, EndsRequest, EndsWith, EndsWords, OfAnswer}
use Rattle.smemu.specs.Views.{PrintsAll, PrintsFront, WritesStatus}
use Rattle.smemu.specs.declared.answer.Answer.{Answer}
use Rattle.smemu.specs.declared.answer.Answer.TheVariants as answer
use Rattle.smemu.specs.declared.ending.Ending.TheVariants as ending
use Rattle.smemu.specs.declared.refusal.Refusal.{Refusal}
use Rattle.smemu.specs.declared.refusal.Refusal.TheVariants as refusal
use Rattle.smemu.specs.declared.refusal.Unread.TheVariants as unread
use Rattle.smemu.specs.declared.rejection.Rejection.{Rejection}
use Rattle.smemu.specs.declared.rejection.Rejection.TheVariants as rejection
use Rattle.smemu.proofs.Requests.{accepted_due, due_after, due_reached, told_accepted}

-- ---- results

-- what is said of each value is said of a result where it has one
pub if_ok : {A E : Type 0} (says tells : A → Type 0) (result : Result A E) → ((a : A) → says a → tells a) → IfOk result says
    → IfOk result tells
if_ok says tells (Ok a) gives h = gives a h
if_ok says tells (Err e) gives h = tt

pub if_err : {A E : Type 0} (says tells : E → Type 0) (result : Result A E) → ((e : E) → says e → tells e) → IfErr result says
    → IfErr result tells
if_err says tells (Ok a) gives h = tt
if_err says tells (Err e) gives h = gives e h

-- what is asked is one request, so that it takes threads or takes none
pub same_takes : (asked : Option Request) (one other : Request) → asked ≡ Some one → asked ≡ Some other
    → takes_threads other ≡ false → takes_threads one ≡ false
same_takes asked one other e h alone =
    let same : other ≡ one = cc in
    subst (λ (r : Request). takes_threads r ≡ false) same alone

-- an error says nothing of a value
pub none_ok : {A E : Type 0} (says : A → Type 0) (result : Result A E) → IsErr result → IfOk result says
none_ok says (Ok a) h = absurd (let f : false ≡ true = h in cc)
none_ok says (Err e) h = tt

-- what is asked is one request, so that it takes threads or takes none
pub same_takes_some : (asked : Option Request) (one other : Request) → asked ≡ Some one → asked ≡ Some other
    → takes_threads other ≡ true → takes_threads one ≡ true
same_takes_some asked one other e h several =
    let same : other ≡ one = cc in
    subst (λ (r : Request). takes_threads r ≡ true) same several

-- ---- the words

-- what stands for what the words ask for
defined_of : (words : List (List ℕ)) (files : Change FilesView) (request : Request) (s : Status) (text : List ℕ)
    → command_of words ≡ Some request → Stands request files s text → Defined words files s text
defined_of words files request Usage text e h = absurd h
defined_of words files request s text e h = record { request = request; asked = e; stands = h }

-- what holds of each status and text of an answer, where what holds of them before gives it
pub of_answer : (says tells : Status → List ℕ → Type 0) → ((text : List ℕ) → says Done text → tells Done text)
    → ((text : List ℕ) → says OutOfMemory text → tells OutOfMemory text) → (a : Answer) → OfAnswer says a → OfAnswer tells a
of_answer says tells done memory (answer.Text told) h = done (answer_text told) h
of_answer says tells done memory (answer.Session d) h = (
  λ (text : List ℕ) (p : PrintsAll d text). done text (h.0 text p),
  λ (text : List ℕ) (p : PrintsFront d text). memory text (h.1 text p),
)

-- the end for what the words ask for
pub asked_ends : (words : List (List ℕ)) (files : Change FilesView) (request : Request) (end : Result Answer Refusal)
    → command_of words ≡ Some request → EndsRequest request files end → EndsWords words files end
asked_ends words files request (Ok a) e h =
    of_answer (Stands request files) (Defined words files) (λ text stands. defined_of words files request Done text e stands)
    (λ text stands. defined_of words files request OutOfMemory text e stands) a h
asked_ends words files request (Err refusal.Memory) e h = tt
asked_ends words files request (Err r) e h = defined_of words files request (refusal_status r) (refusal_text r) e h

none_or : (words : List (List ℕ)) (fault : usage.Fault) (o : Option Request) → command_of words ≡ o → usage_fault words ≡ Some fault
    → o ≡ None
none_or words fault None e h = refl
none_or words fault (Some request) e h =
    absurd (none_not_some (usage_fault words) fault ((reading words).0 (IsSome_from (command_of words) request e)) h)

-- words with a fault ask for nothing
pub no_request : (words : List (List ℕ)) (fault : usage.Fault) → usage_fault words ≡ Some fault → command_of words ≡ None
no_request words fault h = none_or words fault (command_of words) refl h

-- the line of the first fault of the words
pub usage_stands : (words : List (List ℕ)) (place : ℕ) (kind : UsageKind) → usage_fault words ≡ Some (record { place = place; kind = kind })
    → IsUsage words (refusal_text (refusal.Usage place kind))
unfolding refusal_text
usage_stands words place kind e = record { fault = record { place = place; kind = kind }; is_fault = e; is_text = refl }

-- ---- what was fetched

-- for what the words ask for
pub fetches_asked : {F : Type 0} (fetched : F → List ℕ → ℕ → F → Type 0) (told : Told) (unread : Type 0) (old new : F) (status : Status)
    (o : Option Request) (request : Request) → o ≡ Some request
    → FetchesReached fetched told unread (reached_of told request) old new status
    → FetchesReached fetched told unread (reached_asked told o) old new status
fetches_asked fetched told unread old new status o request e h =
    subst (λ (names : List Named). FetchesReached fetched told unread names old new status) (sym (ap (reached_asked told) e)) h

all_none : (told : Told) (unread : Type 0) → IfSome told (λ files. (◌≡◌ {A = List Named} [] []) ⊎ unread)
all_none None unread = tt
all_none (Some files) unread = inl refl

-- nothing, as no file is named
pub fetches_none : {F : Type 0} (fetched : F → List ℕ → ℕ → F → Type 0) (told : Told) (unread : Type 0) (old new : F) (status : Status)
    (names : List Named) → names ≡ [] → new ≡ old → FetchesReached fetched told unread names old new status
fetches_none fetched told unread old new status names e same = record {
  front = [];
  rest = [];
  part = e;
  all = λ some. all_none told unread;
  first = λ some is. refl;
  done = λ is. refl;
  each = same;
}

-- nor was any where memory was wanting before that
pub fetches_unread : {F : Type 0} (fetched : F → List ℕ → ℕ → F → Type 0) (told : Told) (unread : Type 0) (names : List Named) (old new : F)
    → new ≡ old → FetchesReached fetched told unread names old new OutOfMemory
fetches_unread fetched told unread names old new same = record {
  front = [];
  rest = names;
  part = refl;
  all = λ other. absurd (other refl);
  first = λ other. absurd (other refl);
  done = λ is. cc;
  each = same;
}

-- with another status, that is not Done
pub fetches_as : {F : Type 0} (fetched : F → List ℕ → ℕ → F → Type 0) (told : Told) (unread : Type 0) (names : List Named) (old new : F)
    (status other : Status) → (status ≡ OutOfMemory → ⊥) → (other ≡ Done → ⊥)
    → FetchesReached fetched told unread names old new status → FetchesReached fetched told unread names old new other
fetches_as fetched told unread names old new status other some not_done h = record {
  front = h.front;
  rest = h.rest;
  part = h.part;
  all = λ is. h.all some;
  first = λ is none. h.first some none;
  done = λ is. absurd (not_done is);
  each = h.each;
}

-- ---- what is written of an end

-- an end that is written with a status and a text has them for their cause, or wants memory and has no text
pub written : (words : List (List ℕ)) (files : Change FilesView) (end : Result Answer Refusal) (s : Status) (text : List ℕ)
    → EndsWords words files end → EndsWith end s text → Defined words files s text ⊎ ((s ≡ OutOfMemory) × (text ≡ []))
unfolding refusal_text
written words files (Ok (answer.Text told)) s text h w =
    inl (subst (λ q. Defined words files q text) (sym w.0) (subst (λ t. Defined words files Done t) (sym w.1) h))
written words files (Ok (answer.Session d)) Done text h w = inl (h.0 text w)
written words files (Ok (answer.Session d)) OutOfMemory text h w = inl (h.1 text w)
written words files (Ok (answer.Session d)) s text h w = absurd w
written words files (Err refusal.Memory) s text h w = inr w
written words files (Err r) s text h w =
    inl (subst (λ q. Defined words files q text) (sym w.0) (subst (λ t. Defined words files (refusal_status r) t) (sym w.1) h))

-- ---- the status that is due

-- what is told has a status with which the command may end
told_so : (telling : Telling) (operands : List Argument) (options : Numbers) (files : List (List ℕ)) (text : List ℕ)
    → IsToldBy telling operands options files text → IsTold telling
told_so (Tells says) operands options files text h = tt
told_so Never operands options files text h = absurd h

may_end : (verb : Verb) (s : Status) → (s ≡ OutOfMemory → ⊥) → IsTold (outcomes_of verb s) → MayEnd verb s
may_end verb OutOfMemory some h = absurd (some refl)
may_end verb s some h = h

rejection_due : (request : Request) (rejection : Rejection) → IsDueOf (Some request) (rejection_status rejection)
    (rejection_status rejection)
rejection_due request (rejection.Program fault) = refl
rejection_due request rejected = refl

pub there : (told : Told) (files : List ℕ → Option (List ℕ)) (name file : List ℕ) → told ≡ Some files
    → IfSome told (λ known. known name ≡ Some file) → files name ≡ Some file
there told files name file e h = subst (λ (t : Told). IfSome t (λ known. known name ≡ Some file)) e h

pub told_reached : (told : Told) (files : List ℕ → Option (List ℕ)) (request : Request) (named : Named) → told ≡ Some files
    → IsAmong (reached_of told request) named → IsAmong (reached_of (Some files) request) named
told_reached told files request named e h = subst (λ (t : Told). IsAmong (reached_of t request) named) e h

missing_due : (judge : Judge) (file : Option (List ℕ)) → file ≡ None → (rest : List ℕ → Status) → due_of_file judge file rest ≡ Absent
missing_due judge file e rest = rw e refl

pub rejected_due : (judge : Judge) (file : Option (List ℕ)) (whole : List ℕ) (rejection : Rejection) → file ≡ Some whole
    → judge whole ≡ Some rejection → (rest : List ℕ → Status) → due_of_file judge file rest ≡ rejection_status rejection
rejected_due judge file whole rejection e h rest = ap (λ o. due_of_file judge o rest) e ∙ ap (λ r. due_of_rejection r (rest whole)) h

module _ (words : List (List ℕ)) (files : Change FilesView) (told : List ℕ → Option (List ℕ)) (tells : files.before.told ≡ Some told)
    (request : Request) (asked : command_of words ≡ Some request) where
  request_due : (s : Status) → IsDueOf (Some request) (due_of_files request [] told (files_named request)) s → IsDue told words s
  request_due s h = subst (λ o. IsDueOf o (due_of_request told o) s) (sym asked) h

  outcome_due : (s : Status) (text : List ℕ) → (s ≡ OutOfMemory → ⊥) → IsOutcome files.before.told request s text → IsDue told words s
  outcome_due s text some h =
      request_due s (subst (λ d. IsDueOf (Some request) d s)
      (sym (accepted_due told request (files_named request) h.files
      (told_accepted files.before.told (Some told) request (files_named request) h.files tells h.accepted)))
      (may_end request.verb s some (told_so (outcomes_of request.verb s) request.operands request.options h.files text h.ends)))

  -- a file that is reached is not accepted
  rejection_is_due : (s : Status) (text : List ℕ) → IsRejection files.before.told request s text → IsDue told words s
  rejection_is_due s text h =
      let whole = there files.before.told told h.named.name h.file tells h.is_file in
      let due : due_of_files request [] told (files_named request) ≡ rejection_status h.rejection =
      ap (due_of_files request [] told) h.are
      ∙ due_after told request [] h.names (h.named ∷ h.rest) h.before
      (told_accepted files.before.told (Some told) request h.names h.before tells h.accepted)
      ∙ rejected_due (judge_of request h.before h.named.kind) (told h.named.name) h.file h.rejection whole h.rejects
      (λ file. due_of_files request (h.before ++ file ∷ []) told h.rest) in
      subst (IsDue told words) (sym h.is_status)
      (request_due (rejection_status h.rejection)
      (subst (λ d. IsDueOf (Some request) d (rejection_status h.rejection)) (sym due) (rejection_due request h.rejection)))

  -- the status of what stands is due, or it may come in its place
  stands_due : (s : Status) (text : List ℕ) → Stands request files s text → IsDue told words s ⊎ MayCome told words s
  stands_due Usage text h = absurd h
  stands_due WriteFault text h = absurd h
  stands_due OutOfMemory text h = inr tt
  stands_due Absent text h =
      let gone = subst (λ (t : Told). IfSome t (λ known. known h.named.name ≡ None)) tells h.missing in
      let at = told_reached files.before.told told request h.named tells h.reached in
      inl (request_due Absent (subst (λ d. IsDueOf (Some request) d Absent)
      (sym (due_reached request [] told (files_named request) at.0 h.named Absent at.1
      (λ judge rest. missing_due judge (told h.named.name) gone rest))) refl))
  stands_due ReadFault text h =
      let here = subst (λ (t : Told). IfSome t (λ known. IsSome (known h.named.name))) tells h.there in
      let at = told_reached files.before.told told request h.named tells h.reached in
      inr (h.named, subst (λ (ns : List Named). IsAmong ns h.named) (sym (ap (reached_asked (Some told)) asked)) at, here)
  stands_due Done text h = inl (outcome_due Done text (λ is. cc) h)
  stands_due s text (inl h) = inl (rejection_is_due s text h)
  stands_due s text (inr h) = inl (outcome_due s text (λ is. cc) h)

module _ (words : List (List ℕ)) (files : Change FilesView) (told : List ℕ → Option (List ℕ)) (tells : files.before.told ≡ Some told) where
  defined_due : (s : Status) (text : List ℕ) → Defined words files s text → IsDue told words s ⊎ MayCome told words s
  defined_due Usage text h =
      inl (subst (λ o. IsDueOf o (due_of_request told o) Usage) (sym (no_request words h.fault h.is_fault)) refl)
  defined_due s text h = stands_due words files told tells h.request h.asked s text h.stands

  -- the status with which an end is written is due, or it may come in its place
  pub completed : (end : Result Answer Refusal) (s : Status) (text : List ℕ) → EndsWords words files end → EndsWith end s text
      → IsDue told words s ⊎ MayCome told words s
  completed end s text h w = elim (written words files end s text h w) [
    | inl defined ↦ defined_due s text defined
    | inr wanting ↦ subst (λ q. IsDue told words q ⊎ MayCome told words q) (sym wanting.0) (inr tt)
  ]

-- ---- the writing

not_done : (c : Call) (s : Status) → (s ≡ Done → ⊥) → IsDone c s
not_done c Done other = absurd (other refl)
not_done c s other = tt

-- a refusal is not Done, and is want of memory where it says so
pub refusal_done : (r : Refusal) → refusal_status r ≡ Done → ⊥
refusal_done (refusal.Unread name unread.Absent) e = cc
refusal_done (refusal.Rejected (rejection.Program fault)) e = cc
refusal_done (refusal.Ended (ending.Differs it)) e = cc
refusal_done r e = cc

refusal_memory : (r : Refusal) → refusal_status r ≡ OutOfMemory → r ≡ refusal.Memory
refusal_memory (refusal.Unread name unread.Absent) e = cc
refusal_memory (refusal.Rejected (rejection.Program fault)) e = cc
refusal_memory (refusal.Ended (ending.Differs it)) e = cc
refusal_memory refusal.Memory e = refl
refusal_memory r e = cc

-- a sink does not fail where nothing is written
nothing_fails : (a b : SinkView) (e : PutFault) → Writes a b (Err e) [] → ⊥
nothing_fails a b e w = let f : false ≡ true = (w.accepts (omega arith)).0 in cc

-- what could not be written has a status other than want of memory
pub failed_status : (a b : SinkView) (e : PutFault) (end : Result Answer Refusal) (s : Status) (text : List ℕ) → EndsWith end s text
    → Writes a b (Err e) text → end_status end ≡ OutOfMemory → ⊥
unfolding refusal_text
failed_status a b e (Ok x) s text h w is = cc
failed_status a b e (Err r) s text h w is =
    let said = subst (λ (t : List ℕ). Writes a b (Err e) t) h.1 w in
    nothing_fails a b e (subst (λ (q : Refusal). Writes a b (Err e) (refusal_text q)) (refusal_memory r is) said)

-- where memory was wanting before the writing, the status says so
pub memory_status : (before after : SinkView) (end : Result Answer Refusal) (s : Status) → end ≡ Err refusal.Memory
    → WritesStatus end before after s → s ≡ OutOfMemory
memory_status before after end s is (inl w) = (subst (λ e. EndsWith e s w.0) is w.1).0
memory_status before after end s is (inr w) =
    absurd (failed_status before after Failed end w.1.0 w.1.1 w.1.2 w.1.3 (ap end_status is))

-- the same was fetched, whatever became of a session
pub fetches_end : {F : Type 0} (fetched : F → List ℕ → ℕ → F → Type 0) (told : Told) (unread : Type 0) (names : List Named) (old new : F)
    (end : Result Answer Refusal) (s : Status) (text : List ℕ) → EndsWith end s text
    → FetchesReached fetched told unread names old new (end_status end) → FetchesReached fetched told unread names old new s
fetches_end fetched told unread names old new (Ok (answer.Text it)) s text w h =
    subst (λ q. FetchesReached fetched told unread names old new q) (sym w.0) h
fetches_end fetched told unread names old new (Ok (answer.Session d)) Done text w h = h
fetches_end fetched told unread names old new (Ok (answer.Session d)) OutOfMemory text w h =
    fetches_as fetched told unread names old new Done OutOfMemory (λ is. cc) (λ is. cc) h
fetches_end fetched told unread names old new (Ok (answer.Session d)) s text w h = absurd w
fetches_end fetched told unread names old new (Err r) s text w h =
    subst (λ q. FetchesReached fetched told unread names old new q) (sym w.0) h

module _ (c : Call) where
  done_so : (s : Status) (text : List ℕ) → Defined c.words c.files s text → Writes c.out.before c.out.after (Ok tt) text → IsDone c s
  done_so Done text h w = record { text = text; defined = h; writes = w }
  done_so s text h w = tt

  pub done_of : (end : Result Answer Refusal) (s : Status) (text : List ℕ) → EndsWords c.words c.files end → EndsWith end s text
      → Writes c.out.before c.out.after (Ok tt) text → IsDone c s
  done_of end s text h is w = elim (written c.words c.files end s text h is) [
    | inl defined ↦ done_so s text defined w
    | inr wanting ↦ subst (IsDone c) (sym wanting.0) tt
  ]

  refused_so : (s : Status) (text : List ℕ) → Defined c.words c.files s text → Writes c.out.before c.out.after (Ok tt) text
      → IsRefused c s
  refused_so Done text h w = tt
  refused_so WriteFault text h w = absurd h.stands
  refused_so OutOfMemory text h w = inr (record { text = text; defined = h; writes = w })
  refused_so s text h w = record { text = text; defined = h; writes = w }

  pub refused_of : (end : Result Answer Refusal) (s : Status) (text : List ℕ) → EndsWords c.words c.files end → EndsWith end s text
      → Writes c.out.before c.out.after (Ok tt) text → IsRefused c s
  refused_of end s text h is w = elim (written c.words c.files end s text h is) [
    | inl defined ↦ refused_so s text defined w
    | inr wanting ↦ subst (IsRefused c) (sym wanting.0)
        (inl (subst (λ (t : List ℕ). Writes c.out.before c.out.after (Ok tt) t) wanting.1 w))
  ]

  pub cut_of : (e : PutFault) (end : Result Answer Refusal) (s : Status) (text : List ℕ) → EndsWords c.words c.files end
      → EndsWith end s text → Writes c.out.before c.out.after (Err e) text → IsRefused c WriteFault
  cut_of Failed end s text h is w = elim (written c.words c.files end s text h is) [
    | inl defined ↦ (s, record { text = text; defined = defined; writes = w })
    | inr wanting ↦ absurd (nothing_fails c.out.before c.out.after Failed
        (subst (λ (t : List ℕ). Writes c.out.before c.out.after (Err Failed) t) wanting.1 w))
  ]

-- ---- the status of an end that is written

module _ (c : Call) (end : Result Answer Refusal) (s : Status) (ends : EndsWords c.words c.files end) where
  pub status_done : WritesStatus end c.out.before c.out.after s → IsDone c s
  status_done (inl w) = done_of c end s w.0 ends w.1 w.2
  status_done (inr w) = subst (IsDone c) (sym w.0) tt

  pub status_refused : WritesStatus end c.out.before c.out.after s → IsRefused c s
  status_refused (inl w) = refused_of c end s w.0 ends w.1 w.2
  status_refused (inr w) = subst (IsRefused c) (sym w.0) (cut_of c Failed end w.1.0 w.1.1 ends w.1.2 w.1.3)

  pub status_complete : WritesStatus end c.out.before c.out.after s → IsComplete c s
  status_complete (inl w) = λ files tells. completed c.words c.files files tells end s w.0 ends w.1
  status_complete (inr w) = λ files tells. inr (subst (MayCome files c.words) (sym w.0) tt)

-- what was fetched
pub status_fetched : {F : Type 0} (fetched : F → List ℕ → ℕ → F → Type 0) (told : Told) (unread : Type 0) (reached : List Named)
    (old new : F)
    (end : Result Answer Refusal) (before after : SinkView) (s : Status) → WritesStatus end before after s
    → FetchesReached fetched told unread reached old new (end_status end) → FetchesReached fetched told unread reached old new s
status_fetched fetched told unread reached old new end before after s (inl w) h =
    fetches_end fetched told unread reached old new end s w.0 w.1 h
status_fetched fetched told unread reached old new end before after s (inr w) h =
    subst (FetchesReached fetched told unread reached old new) (sym w.0)
    (fetches_as fetched told unread reached old new (end_status end) WriteFault
    (failed_status before after Failed end w.1.0 w.1.1 w.1.2 w.1.3) (λ is. cc) h)
