-- The files of a request: which are reached, and which status is due.
use Rattle.std.proofs.Common.{◌≡◌, ℕ, zero, suc, cond, List, [], ◌∷◌, ◌++◌, length, Option, Some, None, refl, sym, ◌∙◌, ap}
use Rattle.std.proofs.Common.{append_assoc, append-nil, subst}
use Rattle.std.proofs.lemmas.Option.{same_Some}
use Rattle.std.specs.Prelude.{slice_get, is_none, IfSome}
use Rattle.plain_lemmas.proofs.Lists.{slice_get-mid}
use Rattle.cmd_words.specs.Words.{Request}
use Rattle.edge_io.specs.Files.{Told}
use Rattle.command_lines.specs.declared.status.Status.{Status}
use Rattle.command_lines.specs.declared.status.Status.TheVariants.{Done}
use Rattle.smemu.specs.Answers.{AreAccepted, IsFile}
use Rattle.smemu.specs.Rejections.{Judge, judge_of}
use Rattle.smemu.specs.Requests.{Named, after_file, reached_in, reached_from, IsAmong, due_of_rejection, due_of_file, due_of_files}
use Rattle.smemu.specs.declared.rejection.Rejection.{Rejection}

-- ---- files that are accepted

-- all files after some that are accepted are reached as they are after those
pub reached_after : (told : Told) (request : Request) (before : List (List ℕ)) (names rest : List Named) (files : List (List ℕ))
    → AreAccepted told request before names files
    → reached_from told request before (names ++ rest) ≡ names ++ reached_from told request (before ++ files) rest
reached_after None request before names rest files h = refl
reached_after (Some known) request before [] rest [] h =
    ap (λ (fs : List (List ℕ)). reached_in request fs known rest) (sym (append-nil before))
reached_after (Some known) request before [] rest (file ∷ files) h = absurd h
reached_after (Some known) request before (named ∷ names) rest [] h = absurd h
reached_after (Some known) request before (named ∷ names) rest (file ∷ files) h =
    let on : List ℕ → List Named = λ f. reached_in request (before ++ f ∷ []) known (names ++ rest) in
    ap (λ (o : Option (List ℕ)). named ∷ after_file (judge_of request before named.kind) o on) h.0
    ∙ ap (λ (r : Option Rejection). named ∷ cond (is_none r) (on file) []) h.1
    ∙ ap (λ (ns : List Named). named ∷ ns) (reached_after (Some known) request (before ++ file ∷ []) names rest files h.2)
    ∙ ap (λ (fs : List (List ℕ)). named ∷ (names ++ reached_in request fs known rest)) (append_assoc before (file ∷ []) files)

-- one more
pub accepted_more : (told : Told) (request : Request) (before : List (List ℕ)) (names : List Named) (files : List (List ℕ))
    (named : Named) (file : List ℕ) → AreAccepted told request before names files → IsFile told named.name file
    → judge_of request (before ++ files) named.kind file ≡ None
    → AreAccepted told request before (names ++ named ∷ []) (files ++ file ∷ [])
accepted_more told request before [] [] named file h is accepted =
    (is, subst (λ (fs : List (List ℕ)). judge_of request fs named.kind file ≡ None) (append-nil before) accepted, tt)
accepted_more told request before [] (first ∷ files) named file h is accepted = absurd h
accepted_more told request before (first ∷ names) [] named file h is accepted = absurd h
accepted_more told request before (first ∷ names) (one ∷ files) named file h is accepted = (
  h.0,
  h.1,
  accepted_more told request (before ++ one ∷ []) names files named file h.2 is
      (subst (λ (fs : List (List ℕ)). judge_of request fs named.kind file ≡ None) (sym (append_assoc before (one ∷ []) files)) accepted),
)

-- the status that is due of files after some that are accepted is that of the others
pub due_after : (known : List ℕ → Option (List ℕ)) (request : Request) (before : List (List ℕ)) (names rest : List Named)
    (files : List (List ℕ)) → AreAccepted (Some known) request before names files
    → due_of_files request before known (names ++ rest) ≡ due_of_files request (before ++ files) known rest
due_after known request before [] rest [] h =
    ap (λ (fs : List (List ℕ)). due_of_files request fs known rest) (sym (append-nil before))
due_after known request before [] rest (file ∷ files) h = absurd h
due_after known request before (named ∷ names) rest [] h = absurd h
due_after known request before (named ∷ names) rest (file ∷ files) h =
    let on : List ℕ → Status = λ f. due_of_files request (before ++ f ∷ []) known (names ++ rest) in
    ap (λ (o : Option (List ℕ)). due_of_file (judge_of request before named.kind) o on) h.0
    ∙ ap (λ (r : Option Rejection). due_of_rejection r (on file)) h.1
    ∙ due_after known request (before ++ file ∷ []) names rest files h.2
    ∙ ap (λ (fs : List (List ℕ)). due_of_files request fs known rest) (append_assoc before (file ∷ []) files)

-- nothing else than Done is due of them
pub accepted_due : (known : List ℕ → Option (List ℕ)) (request : Request) (names : List Named) (files : List (List ℕ))
    → AreAccepted (Some known) request [] names files → due_of_files request [] known names ≡ Done
accepted_due known request names files h =
    ap (due_of_files request [] known) (sym (append-nil names)) ∙ due_after known request [] names [] files h

-- the same files, as far as others tell the same
pub told_accepted : (told other : Told) (request : Request) (names : List Named) (files : List (List ℕ)) → told ≡ other
    → AreAccepted told request [] names files → AreAccepted other request [] names files
told_accepted told other request names files e h = subst (λ (t : Told). AreAccepted t request [] names files) e h

-- ---- the file after some that are accepted

-- the files after one that are reached
pub rest_of : Told → Request → List (List ℕ) → Named → List Named → List Named
rest_of None request before named rest = rest
rest_of (Some files) request before named rest =
    after_file (judge_of request before named.kind) (files named.name) (λ file. reached_in request (before ++ file ∷ []) files rest)

pub reached_first : (told : Told) (request : Request) (before : List (List ℕ)) (named : Named) (rest : List Named)
    → reached_from told request before (named ∷ rest) ≡ named ∷ rest_of told request before named rest
unfolding rest_of
reached_first None request before named rest = refl
reached_first (Some files) request before named rest = refl

pub reached_none : (told : Told) (request : Request) (before : List (List ℕ)) → reached_from told request before [] ≡ []
reached_none None request before = refl
reached_none (Some files) request before = refl

-- none is reached after a file that is not there
pub none_after_absent : (told : Told) (request : Request) (before : List (List ℕ)) (named : Named) (rest : List Named)
    → IfSome told (λ files. files named.name ≡ None) → IfSome told (λ files. rest_of told request before named rest ≡ [])
unfolding rest_of
none_after_absent None request before named rest h = tt
none_after_absent (Some files) request before named rest h =
    ap (λ file. after_file (judge_of request before named.kind) file (λ f. reached_in request (before ++ f ∷ []) files rest)) h

-- or that is not accepted
pub none_after_rejected : (told : Told) (request : Request) (before : List (List ℕ)) (named : Named) (rest : List Named)
    (file : List ℕ) (rejection : Rejection) → IsFile told named.name file → judge_of request before named.kind file ≡ Some rejection
    → IfSome told (λ files. rest_of told request before named rest ≡ [])
unfolding rest_of
none_after_rejected None request before named rest file rejection is h = tt
none_after_rejected (Some files) request before named rest file rejection is h =
    ap (λ file. after_file (judge_of request before named.kind) file (λ f. reached_in request (before ++ f ∷ []) files rest)) is
    ∙ ap (λ r. cond (is_none r) (reached_in request (before ++ file ∷ []) files rest) []) h

-- it is reached
pub is_reached : (told : Told) (request : Request) (names rest : List Named) (files : List (List ℕ)) (named : Named)
    → AreAccepted told request [] names files → IsAmong (reached_from told request [] (names ++ named ∷ rest)) named
is_reached told request names rest files named h = (
  length names,
  ap (λ ns. slice_get ns (length names)) (reached_after told request [] names (named ∷ rest) files h
      ∙ ap (λ (ns : List Named). names ++ ns) (reached_first told request files named rest))
      ∙ slice_get-mid names (rest_of told request files named rest) named,
)

-- ---- the status that is due

-- a file after the first is reached where the first is accepted, and then the status is that of the others
module _ (s : Status) (rest : List ℕ → Status) (names : List ℕ → List Named) (place : ℕ) (named : Named)
    (later : (file : List ℕ) → slice_get (names file) place ≡ Some named → rest file ≡ s) where
  past_rejection : (file : List ℕ) (rejection : Option Rejection)
      → slice_get (cond (is_none rejection) (names file) []) place ≡ Some named → due_of_rejection rejection (rest file) ≡ s
  past_rejection file None e = later file e
  past_rejection file (Some fault) e = cc

  past_file : (judge : Judge) (file : Option (List ℕ)) → slice_get (after_file judge file names) place ≡ Some named
      → due_of_file judge file rest ≡ s
  past_file judge None e = cc
  past_file judge (Some file) e = past_rejection file (judge file) e

-- the status of a file that is reached, however it is judged and whatever comes after it, is due
pub due_reached : (request : Request) (before : List (List ℕ)) (files : List ℕ → Option (List ℕ)) (names : List Named) (place : ℕ)
    (named : Named) (s : Status) → slice_get (reached_in request before files names) place ≡ Some named
    → ((judge : Judge) (rest : List ℕ → Status) → due_of_file judge (files named.name) rest ≡ s)
    → due_of_files request before files names ≡ s
due_reached request before files [] place named s e h = cc
due_reached request before files (first ∷ rest) zero named s e h =
    subst (λ (n : Named). due_of_file (judge_of request before first.kind) (files n.name)
    (λ file. due_of_files request (before ++ file ∷ []) files rest) ≡ s) (sym (same_Some first named e))
    (h (judge_of request before first.kind) (λ file. due_of_files request (before ++ file ∷ []) files rest))
due_reached request before files (first ∷ rest) (suc place) named s e h =
    past_file s (λ file. due_of_files request (before ++ file ∷ []) files rest)
    (λ file. reached_in request (before ++ file ∷ []) files rest) place named
    (λ file later. due_reached request (before ++ file ∷ []) files rest place named s later h) (judge_of request before first.kind)
    (files first.name) e
