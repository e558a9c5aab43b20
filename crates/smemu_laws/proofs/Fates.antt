-- What becomes of the files of a request that are told: all are accepted, or one is the first that is not.
use Rattle.std.proofs.Common.{◌≡◌, ◌⊎◌, inl, inr, ℕ, zero, suc, cond, List, [], ◌∷◌, ◌++◌, Option, Some, None, refl, sym, ◌∙◌, ap}
use Rattle.std.proofs.Common.{append_assoc, append-nil, subst}
use Rattle.std.specs.Prelude.{slice_get, is_none, IfSome}
use Rattle.cmd_words.specs.Words.{Request}
use Rattle.edge_io.specs.Files.{FilesView, Told}
use Rattle.command_lines.specs.declared.status.Status.{Status}
use Rattle.command_lines.specs.declared.status.Status.TheVariants.{Done, Usage, Absent, ReadFault, WriteFault, OutOfMemory}
use Rattle.smemu.specs.Answers.{AreAccepted, IsOutcome, outcome}
use Rattle.smemu.specs.Ends.{Change, IsRejection, Stands, absent_line}
use Rattle.smemu.specs.Rejections.{Judge, judge_of, rejection_line, rejection_status}
use Rattle.smemu.specs.Requests.{Named, after_file, files_named, reached_in}
use Rattle.smemu.specs.declared.rejection.Rejection.{Rejection}
use Rattle.smemu.proofs.Ends.{there, told_reached}
use Rattle.smemu.proofs.Requests.{told_accepted}

pub data Fate : Type 0 where
  AllAccepted : List (List ℕ) → Fate
  Missing : Named → Fate
  Refused : Named → Rejection → Fate

with_file : List ℕ → Fate → Fate
with_file file (AllAccepted files) = AllAccepted (file ∷ files)
with_file file other = other

of_rejection : Named → List ℕ → Option Rejection → Fate → Fate
of_rejection named file None rest = with_file file rest
of_rejection named file (Some rejection) rest = Refused named rejection

of_file : Judge → Named → Option (List ℕ) → (List ℕ → Fate) → Fate
of_file judge named None rest = Missing named
of_file judge named (Some file) rest = of_rejection named file (judge file) (rest file)

-- of files in their order, after these, which are accepted
pub fate_of : (List ℕ → Option (List ℕ)) → Request → List (List ℕ) → List Named → Fate
fate_of known request before [] = AllAccepted []
fate_of known request before (named ∷ names) =
    of_file (judge_of request before named.kind) named (known named.name) (λ file. fate_of known request (before ++ file ∷ []) names)

module _ (known : List ℕ → Option (List ℕ)) (request : Request) where
  pub accepted_fate : (before : List (List ℕ)) (names : List Named) (files : List (List ℕ))
      → AreAccepted (Some known) request before names files → fate_of known request before names ≡ AllAccepted files
  unfolding fate_of of_file of_rejection with_file
  accepted_fate before [] [] h = refl
  accepted_fate before [] (file ∷ files) h = absurd h
  accepted_fate before (named ∷ names) [] h = absurd h
  accepted_fate before (named ∷ names) (file ∷ files) h =
      let on : List ℕ → Fate = λ f. fate_of known request (before ++ f ∷ []) names in
      ap (λ o. of_file (judge_of request before named.kind) named o on) h.0 ∙ ap (λ r. of_rejection named file r (on file)) h.1
      ∙ ap (with_file file) (accepted_fate (before ++ file ∷ []) names files h.2)

  -- a file that is not accepted, after some that are
  pub refused_fate : (before : List (List ℕ)) (names rest : List Named) (files : List (List ℕ)) (named : Named) (file : List ℕ)
      (rejection : Rejection) → AreAccepted (Some known) request before names files → known named.name ≡ Some file
      → judge_of request (before ++ files) named.kind file ≡ Some rejection
      → fate_of known request before (names ++ named ∷ rest) ≡ Refused named rejection
  unfolding fate_of of_file of_rejection with_file
  refused_fate before [] rest [] named file rejection h is rejects =
      let on : List ℕ → Fate = λ f. fate_of known request (before ++ f ∷ []) rest in
      ap (λ o. of_file (judge_of request before named.kind) named o on) is
      ∙ ap (λ r. of_rejection named file r (on file))
      (subst (λ (fs : List (List ℕ)). judge_of request fs named.kind file ≡ Some rejection) (append-nil before) rejects)
  refused_fate before [] rest (one ∷ files) named file rejection h is rejects = absurd h
  refused_fate before (first ∷ names) rest [] named file rejection h is rejects = absurd h
  refused_fate before (first ∷ names) rest (one ∷ files) named file rejection h is rejects =
      let on : List ℕ → Fate = λ f. fate_of known request (before ++ f ∷ []) (names ++ named ∷ rest) in
      let later =
      subst (λ (fs : List (List ℕ)). judge_of request fs named.kind file ≡ Some rejection) (sym (append_assoc before (one ∷ []) files))
      rejects in
      ap (λ o. of_file (judge_of request before first.kind) first o on) h.0 ∙ ap (λ r. of_rejection first one r (on one)) h.1
      ∙ ap (with_file one) (refused_fate (before ++ one ∷ []) names rest files named file rejection h.2 is later)

  same_some : (a b : Named) → ◌≡◌ {A = Option Named} (Some a) (Some b) → a ≡ b
  same_some a b e = cc

  -- a file after the first is reached where the first is accepted
  module _ (names : List ℕ → List Named) (fates : List ℕ → Fate) (first named : Named) (place : ℕ)
      (later : (file : List ℕ) → slice_get (names file) place ≡ Some named → fates file ≡ Missing named) where
    past_rejection : (file : List ℕ) (rejection : Option Rejection)
        → slice_get (cond (is_none rejection) (names file) []) place ≡ Some named
        → of_rejection first file rejection (fates file) ≡ Missing named
    unfolding of_rejection with_file
    past_rejection file None e = ap (with_file file) (later file e)
    past_rejection file (Some rejection) e = cc

    past_file : (judge : Judge) (file : Option (List ℕ)) → slice_get (after_file judge file names) place ≡ Some named
        → of_file judge first file fates ≡ Missing named
    unfolding of_file
    past_file judge None e = cc
    past_file judge (Some file) e = past_rejection file (judge file) e

  -- a file that is reached and is not there
  pub missing_fate : (before : List (List ℕ)) (names : List Named) (place : ℕ) (named : Named)
      → slice_get (reached_in request before known names) place ≡ Some named → known named.name ≡ None
      → fate_of known request before names ≡ Missing named
  unfolding fate_of of_file
  missing_fate before [] place named e gone = cc
  missing_fate before (first ∷ names) zero named e gone =
      let on : List ℕ → Fate = λ file. fate_of known request (before ++ file ∷ []) names in
      subst (λ (n : Named). of_file (judge_of request before first.kind) n (known n.name) on ≡ Missing named)
      (sym (same_some first named e)) (ap (λ o. of_file (judge_of request before first.kind) named o on) gone)
  missing_fate before (first ∷ names) (suc place) named e gone =
      past_file (λ file. reached_in request (before ++ file ∷ []) known names)
      (λ file. fate_of known request (before ++ file ∷ []) names) first named place
      (λ file later. missing_fate (before ++ file ∷ []) names place named later gone) (judge_of request before first.kind)
      (known first.name) e

-- ---- what stands, by the fate of the files

pub missing_line : Named → List ℕ
missing_line named = absent_line named.name

-- the files are accepted, and this becomes of them
pub record IsAccepted (known : List ℕ → Option (List ℕ)) (request : Request) (s : Status) (text : List ℕ) : Type 0 where
  pub files : List (List ℕ)
  pub fate : fate_of known request [] (files_named request) ≡ AllAccepted files
  pub ends : outcome request files s text

pub record IsMissing (known : List ℕ → Option (List ℕ)) (request : Request) (s : Status) (text : List ℕ) : Type 0 where
  pub named : Named
  pub fate : fate_of known request [] (files_named request) ≡ Missing named
  pub is_status : s ≡ Absent
  pub is_text : text ≡ missing_line named

pub record IsRefused (known : List ℕ → Option (List ℕ)) (request : Request) (s : Status) (text : List ℕ) : Type 0 where
  pub named : Named
  pub rejection : Rejection
  pub fate : fate_of known request [] (files_named request) ≡ Refused named rejection
  pub is_status : s ≡ rejection_status rejection
  pub is_text : text ≡ rejection_line rejection

abbrev pub IsDecided : (List ℕ → Option (List ℕ)) → Request → Status → List ℕ → Type 0
IsDecided known request s text =
    IsAccepted known request s text ⊎ (IsMissing known request s text ⊎ IsRefused known request s text)

module _ (known : List ℕ → Option (List ℕ)) (request : Request) (change : Change FilesView) (tells : change.before.told ≡ Some known)
  where
    outcome_decided : (s : Status) (text : List ℕ) → IsOutcome change.before.told request s text → IsAccepted known request s text
    outcome_decided s text h = record {
      files = h.files;
      fate =
          accepted_fate known request [] (files_named request) h.files
          (told_accepted change.before.told (Some known) request (files_named request) h.files tells h.accepted);
      ends = h.ends;
    }

    rejection_decided : (s : Status) (text : List ℕ) → IsRejection change.before.told request s text → IsRefused known request s text
    rejection_decided s text h = record {
      named = h.named;
      rejection = h.rejection;
      fate =
          ap (fate_of known request []) h.are
          ∙ refused_fate known request [] h.names h.rest h.before h.named h.file h.rejection
          (told_accepted change.before.told (Some known) request h.names h.before tells h.accepted)
          (there change.before.told known h.named.name h.file tells h.is_file) h.rejects;
      is_status = h.is_status;
      is_text = h.is_text;
    }

    absent_decided : (text : List ℕ) → Stands request change Absent text → IsMissing known request Absent text
    unfolding missing_line
    absent_decided text h =
        let at = told_reached change.before.told known request h.named tells h.reached in
        record {
          named = h.named;
          fate =
              missing_fate known request [] (files_named request) at.0 h.named at.1
              (subst (λ (t : Told). IfSome t (λ files. files h.named.name ≡ None)) tells h.missing);
          is_status = refl;
          is_text = h.is_text;
        }

    pub decided : (s : Status) (text : List ℕ) → (s ≡ ReadFault → ⊥) → Stands request change s text → IsDecided known request s text
    decided Usage text readable h = absurd h
    decided WriteFault text readable h = absurd h
    decided ReadFault text readable h = absurd (readable refl)
    decided Absent text readable h = inr (inl (absent_decided text h))
    decided Done text readable h = inl (outcome_decided Done text h)
    decided OutOfMemory text readable h = inl (outcome_decided OutOfMemory text h)
    decided s text readable (inl h) = inr (inr (rejection_decided s text h))
    decided s text readable (inr h) = inl (outcome_decided s text h)
