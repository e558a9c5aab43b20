-- Files in memory. Source: the project's own rule.
use Rattle.std.specs.Prelude.{ℕ, ◌≡◌, List, Option, Some}
use Rattle.edge_io.specs.Failing.{is_nil, next_call}
use Rattle.edge_io.specs.Files.{FilesView, content_of}
use Rattle.edge_io.specs.declared.mem_files.MemFiles.{MemFiles}

-- which calls of `fetch` fail, counted from 1; how many were made; how often no file had the name; how
-- often a call failed
pub record FetchLog : Type 0 where
  pub failing : List ℕ
  pub made : ℕ
  pub absences : ℕ
  pub faults : ℕ

-- the bytes of each name
abbrev pub files_of : MemFiles → List ℕ → Option (List ℕ)
files_of files = content_of files.entries

-- what it knows of its calls
abbrev pub log_of : MemFiles → FetchLog
log_of files =
    record {
      failing = files.failing.items;
      made = files.made;
      absences = files.absences;
      faults = files.faults;
    }

-- it tells its files, and no call fails where none is listed
abbrev pub view_of : MemFiles → FilesView
view_of files =
    record {
      told = Some (files_of files);
      absences = files.absences;
      faults = files.faults;
      reliable = is_nil files.failing.items;
    }

-- a fetch is one call more
pub record IsAfterFetch (old : MemFiles) (name : List ℕ) (limit : ℕ) (new : MemFiles) : Type 0 where
  pub failing : (log_of new).failing ≡ (log_of old).failing
  pub made : (log_of new).made ≡ next_call (log_of old).made
