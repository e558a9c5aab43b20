-- A command whose files are opened one after the other, from the words' names to its end.
use Rattle.std.proofs.Common.{◌≡◌, ◌⊎◌, inl, inr, ℕ, ◌≤◌, List, [], ◌∷◌, ◌++◌, append_assoc, append-nil, Some, None, refl, sym}
use Rattle.std.proofs.Common.{◌∙◌, ap, subst, arith, Result, Ok, Err}
use Rattle.std.specs.Prelude.{IfSome, IsSome, codes}
use Rattle.std.specs.List.{concat}
use Rattle.cmd_words.specs.Words.{Request}
use Rattle.edge_io.specs.Cause.{Rose}
use Rattle.edge_io.specs.Files.{Told, FilesView, IsKept}
use Rattle.command_lines.specs.declared.status.Status.TheVariants.{OutOfMemory}
use Rattle.smemu.specs.Answers.{AreAccepted, outcome}
use Rattle.smemu.specs.Ends.{Change, change, AreFetched, IsRejection, Stands}
use Rattle.smemu.specs.Rejections.{judge_of, limit_of, rejection_status}
use Rattle.smemu.specs.Requests.{Named, files_named, reached_from}
use Rattle.smemu.specs.Views.{CarriesOut, EndsAccepted, EndsRequest, IsOpened, IsUnopened, refusal_status, refusal_text}
use Rattle.smemu.specs.declared.answer.Answer.{Answer}
use Rattle.smemu.specs.declared.ending.Ending.TheVariants as ending
use Rattle.smemu.specs.declared.refusal.Refusal.{Refusal}
use Rattle.smemu.specs.declared.refusal.Refusal.TheVariants as refusal
use Rattle.smemu.specs.declared.refusal.Unread.TheVariants as unread
use Rattle.smemu.specs.declared.rejection.Rejection.{Rejection}
use Rattle.smemu.specs.declared.rejection.Rejection.TheVariants as rejection
use Rattle.smemu.proofs.Ends.{of_answer, refusal_done}
use Rattle.smemu.proofs.Requests.{accepted_more, is_reached, none_after_absent, none_after_rejected, reached_after, reached_first}
use Rattle.smemu.proofs.Requests.{reached_none, rest_of}

-- ---- the files tell the same

kept_still : (view : FilesView) → IsKept view view
kept_still view = record { same = refl; absences = omega arith; faults = omega arith; reliable = λ some. some }

kept_on : (a b c : FilesView) → IsKept a b → IsKept b c → IsKept a c
kept_on a b c h g = record {
  same = g.same ∙ h.same;
  absences = let l = h.absences in let m = g.absences in omega arith;
  faults = let l = h.faults in let m = g.faults in omega arith;
  reliable = λ some. g.reliable (h.reliable some);
}

rose_on : (a b c : ℕ) → a ≤ b → Rose b c → b ≤ c → Rose a c
rose_on a b c l (inl up) m = inl (omega arith)
rose_on a b c l (inr last) m = grind arith

-- ---- what is fetched

fetched_more : {F : Type 0} (fetched : F → List ℕ → ℕ → F → Type 0) (names : List Named) (named : Named) (old now new : F)
    → AreFetched fetched names old now → fetched now named.name (limit_of named.kind) new
    → AreFetched fetched (names ++ named ∷ []) old new
fetched_more fetched [] named old now new h one = (new, subst (λ it. fetched it named.name (limit_of named.kind) new) h one, refl)
fetched_more fetched (first ∷ names) named old now new h one =
    (h.0, h.1, fetched_more fetched names named h.0 now new h.2 one)

-- all was fetched, or a file could not be read
all_of : (told : Told) (unread : Type 0) (rest : List Named) → IfSome told (λ files. rest ≡ [])
    → IfSome told (λ files. (rest ≡ []) ⊎ unread)
all_of None unread rest h = tt
all_of (Some files) unread rest h = inl h

not_all : (told : Told) (unread : Type 0) (rest : List Named) → unread → IfSome told (λ files. (rest ≡ []) ⊎ unread)
not_all None unread rest h = tt
not_all (Some files) unread rest h = inr h

none_left : (told : Told) → IfSome told (λ files. ◌≡◌ {A = List Named} [] [])
none_left None = tt
none_left (Some files) = refl

not_empty : (names : List Named) (named : Named) → names ++ named ∷ [] ≡ [] → ⊥
not_empty [] named e = cc
not_empty (first ∷ names) named e = cc

-- these files were opened, one after the other
pub record AreOpened {F : Type 0} (fetched : F → List ℕ → ℕ → F → Type 0) (view : F → FilesView) (request : Request)
    (names : List Named) (files : List (List ℕ)) (old now : F) : Type 0 where
  pub each : AreFetched fetched names old now
  pub kept : IsKept (view old) (view now)
  pub accepted : AreAccepted (view old).told request [] names files

-- none
pub none_opened : {F : Type 0} (fetched : F → List ℕ → ℕ → F → Type 0) (view : F → FilesView) (request : Request) (old : F)
    → AreOpened fetched view request [] [] old old
none_opened fetched view request old = record { each = refl; kept = kept_still (view old); accepted = tt }

-- one more
pub and_opened : {F : Type 0} {fetched : F → List ℕ → ℕ → F → Type 0} {view : F → FilesView} {request : Request} {names : List Named}
    {files : List (List ℕ)} {old now new : F} {file : List ℕ} (named : Named) → AreOpened fetched view request names files old now
    → fetched now named.name (limit_of named.kind) new → IsKept (view now) (view new)
    → IsOpened (view now).told named.name (judge_of request files named.kind) file
    → AreOpened fetched view request (names ++ named ∷ []) (files ++ file ∷ []) old new
and_opened {fetched = fetched} {view = view} {request = request} {names = names} {files = files} {old = old} {now = now} {new = new}
    {file = file} named so one kept h = record {
      each = fetched_more fetched names named old now new so.each one;
      kept = kept_on (view old) (view now) (view new) so.kept kept;
      accepted =
          accepted_more (view old).told request [] names files named file so.accepted
          (subst (λ (t : Told). IfSome t (λ known. known named.name ≡ Some file)) so.kept.same h.is_file) h.accepted;
    }

-- ---- how a command ends

stands_rejected : (request : Request) (files : Change FilesView) (rejection : Rejection) (text : List ℕ)
    → IsRejection files.before.told request (rejection_status rejection) text
    → Stands request files (rejection_status rejection) text
stands_rejected request files (rejection.Program fault) text h = inl h
stands_rejected request files rejected text h = inl h

module _ {F : Type 0} (fetched : F → List ℕ → ℕ → F → Type 0) (view : F → FilesView) (request : Request) (names rest : List Named)
    (files : List (List ℕ)) (named : Named) (old now new : F) (is : files_named request ≡ names ++ named ∷ rest)
    (so : AreOpened fetched view request names files old now) (one : fetched now named.name (limit_of named.kind) new)
    (kept : IsKept (view now) (view new)) where
  -- the next file was not fetched, or is not accepted: the end
  refused_ends : (r : Refusal) → IsUnopened (change view now new) named.name (judge_of request files named.kind) r
      → EndsRequest request (change view old new) (Err r)
  unfolding refusal_text
  refused_ends (refusal.Unread shown unread.Absent) h = record {
    named = named;
    reached = rw is (is_reached (view old).told request names rest files named so.accepted);
    missing = subst (λ (t : Told). IfSome t (λ known. known named.name ≡ None)) so.kept.same h.1.0;
    rose = rose_on (view old).absences (view now).absences (view new).absences so.kept.absences h.1.1 kept.absences;
    is_text = ap (λ name. concat (codes "absent: " ∷ name ∷ codes "\n" ∷ [])) h.0;
  }
  refused_ends (refusal.Unread shown unread.Failed) h = record {
    named = named;
    reached = rw is (is_reached (view old).told request names rest files named so.accepted);
    there = subst (λ (t : Told). IfSome t (λ known. IsSome (known named.name))) so.kept.same h.1.0;
    rose = rose_on (view old).faults (view now).faults (view new).faults so.kept.faults h.1.1 kept.faults;
    unreliable = λ some. h.1.2 (so.kept.reliable some);
    is_text = ap (λ name. concat (codes "read fault: " ∷ name ∷ codes "\n" ∷ [])) h.0;
  }
  refused_ends (refusal.Rejected rejection) h =
      stands_rejected request (change view old new) rejection (refusal_text (refusal.Rejected rejection)) (record {
        names = names;
        named = named;
        rest = rest;
        are = is;
        before = files;
        accepted = so.accepted;
        file = h.file;
        rejection = rejection;
        is_file = subst (λ (t : Told). IfSome t (λ known. known named.name ≡ Some h.file)) so.kept.same h.is_file;
        rejects = h.rejects;
        is_status = refl;
        is_text = refl;
      })
  refused_ends refusal.Memory h = tt
  refused_ends r h = absurd h

  -- no file after it was fetched
  rest_unread : (r : Refusal) → IsUnopened (change view now new) named.name (judge_of request files named.kind) r
      → (refusal_status r ≡ OutOfMemory → ⊥)
      → IfSome (view old).told (λ known. (rest_of (view old).told request files named rest ≡ [])
      ⊎ Rose (view old).faults (view new).faults)
  rest_unread (refusal.Unread shown unread.Absent) h some =
      all_of (view old).told _ _
      (none_after_absent (view old).told request files named rest
      (subst (λ (t : Told). IfSome t (λ known. known named.name ≡ None)) so.kept.same h.1.0))
  rest_unread (refusal.Unread shown unread.Failed) h some =
      not_all (view old).told _ _
      (rose_on (view old).faults (view now).faults (view new).faults so.kept.faults h.1.1 kept.faults)
  rest_unread (refusal.Rejected rejection) h some =
      all_of (view old).told _ _
      (none_after_rejected (view old).told request files named rest h.file rejection
      (subst (λ (t : Told). IfSome t (λ known. known named.name ≡ Some h.file)) so.kept.same h.is_file) h.rejects)
  rest_unread refusal.Memory h some = absurd (some refl)
  rest_unread r h some = absurd h

  -- the command ends there
  pub refused_next : (r : Refusal) → IsUnopened (change view now new) named.name (judge_of request files named.kind) r
      → CarriesOut fetched view request old new (Err r)
  refused_next r h = record {
    ends = refused_ends r h;
    kept = kept_on (view old) (view now) (view new) so.kept kept;
    fetches = record {
      front = names ++ named ∷ [];
      rest = rest_of (view old).told request files named rest;
      part =
          ap (reached_from (view old).told request []) is ∙ reached_after (view old).told request [] names (named ∷ rest) files so.accepted
          ∙ ap (λ (ns : List Named). names ++ ns) (reached_first (view old).told request files named rest)
          ∙ sym (append_assoc names (named ∷ []) (rest_of (view old).told request files named rest));
      all = rest_unread r h;
      first = λ some none. absurd (not_empty names named none);
      done = λ is. absurd (refusal_done r is);
      each = fetched_more fetched names named old now new so.each one;
    };
  }

-- all files of a request are opened, and what it comes to is so
module _ {F : Type 0} (fetched : F → List ℕ → ℕ → F → Type 0) (view : F → FilesView) (request : Request) (files : List (List ℕ))
    (old now : F) (so : AreOpened fetched view request (files_named request) files old now) where
  all_ends : (end : Result Answer Refusal) → EndsAccepted request files end → EndsRequest request (change view old now) end
  unfolding refusal_text
  all_ends (Ok a) h =
      of_answer (outcome request files) (Stands request (change view old now))
      (λ text ends. record { files = files; accepted = so.accepted; ends = ends })
      (λ text ends. record { files = files; accepted = so.accepted; ends = ends }) a h
  all_ends (Err (refusal.Ended (ending.Mismatch line kind))) h = inr (record { files = files; accepted = so.accepted; ends = h })
  all_ends (Err (refusal.Ended end)) h = inr (record { files = files; accepted = so.accepted; ends = h })
  all_ends (Err refusal.Memory) h = tt
  all_ends (Err r) h = absurd h

  pub all_opened : (end : Result Answer Refusal) → EndsAccepted request files end → CarriesOut fetched view request old now end
  all_opened end h = record {
    ends = all_ends end h;
    kept = so.kept;
    fetches = record {
      front = files_named request;
      rest = [];
      part =
          ap (reached_from (view old).told request []) (sym (append-nil (files_named request)))
          ∙ reached_after (view old).told request [] (files_named request) [] files so.accepted
          ∙ ap (λ (ns : List Named). files_named request ++ ns) (reached_none (view old).told request files);
      all = λ some. all_of (view old).told _ [] (none_left (view old).told);
      first = λ some none. refl;
      done = λ is. refl;
      each = so.each;
    };
  }

-- a request of one file: it is not opened, and the command ends there, or it is, and what it comes to is so
module _ {F : Type 0} (fetched : F → List ℕ → ℕ → F → Type 0) (view : F → FilesView) (request : Request) (named : Named) (old new : F)
    (is : files_named request ≡ named ∷ []) (one : fetched old named.name (limit_of named.kind) new) (kept : IsKept (view old) (view new))
  where
    pub one_refused : (r : Refusal) → IsUnopened (change view old new) named.name (judge_of request [] named.kind) r
        → CarriesOut fetched view request old new (Err r)
    one_refused r h = refused_next fetched view request [] [] [] named old old new is (none_opened fetched view request old) one kept r h

    pub one_opened : (file : List ℕ) → IsOpened (view old).told named.name (judge_of request [] named.kind) file
        → (end : Result Answer Refusal)
        → EndsAccepted request (file ∷ []) end → CarriesOut fetched view request old new end
    one_opened file h end ends =
        all_opened fetched view request (file ∷ []) old new
        (subst (λ (ns : List Named). AreOpened fetched view request ns (file ∷ []) old new) (sym is)
        (and_opened named (none_opened fetched view request old) one kept h)) end ends
