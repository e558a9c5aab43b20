-- Where a text stands in a table, by a hash of its bytes.
-- Source: this project's own tables.
use Rattle.std.specs.Prelude.{ℕ, zero, suc, ◌+◌, ◌*◌, ◌%◌, Bool, true, false, ◌&&◌, ◌==◌, nat_lt, List, []}
use Rattle.std.specs.Prelude.{◌∷◌, length, slice_index, Option, Some, None, if◌then◌else◌}
use Rattle.std.specs.Str.{bytes_eq}
use Rattle.insn_text.specs.declared.item.Text.{Text}
use Rattle.insn_text.specs.Texts.{text_in, text_at}

-- the hash of bytes that follow those with a hash
abbrev pub hash_after : ℕ → ℕ → ℕ → List ℕ → ℕ
hash_after factor size hash [] = hash
hash_after factor size hash (c ∷ cs) = hash_after factor size ((hash * factor + c) % size) cs

-- the index, if the text stands there
unfoldable pub index_if : List Text → ℕ → List ℕ → Option ℕ
index_if texts index text =
    if nat_lt index (length texts) && bytes_eq (text_at texts index) text then Some index else None

abbrev pub first_of : Option ℕ → Option ℕ → Option ℕ
first_of None second = second
first_of (Some index) second = Some index

-- the index of the text by so many slots of a table of some size, one after another from this on; a free
-- slot, 65535, is the last
unfoldable pub probed : List Text → List ℕ → ℕ → List ℕ → ℕ → ℕ → Option ℕ
probed texts slots size text zero slot = None
probed texts slots size text (suc steps) slot =
    if slice_index slots slot == 65535 then None
    else first_of (index_if texts (slice_index slots slot) text)
    (probed texts slots size text steps ((slot + 1) % size))

-- the index of the text by 16 slots from that of its hash on
unfoldable pub index_by : List Text → List ℕ → ℕ → ℕ → List ℕ → Option ℕ
index_by texts slots factor size text = probed texts slots size text 16 (hash_after factor size 0 text)

abbrev pub is_index : ℕ → Option ℕ → Bool
is_index index None = false
is_index index (Some found) = found == index

-- each of some texts, which stand in the table from an index on, is found there
unfoldable pub leads : List Text → List ℕ → ℕ → ℕ → ℕ → List Text → Bool
leads texts slots factor size index [] = true
leads texts slots factor size index (t ∷ ts) =
    is_index index (index_by texts slots factor size (text_in (Some t)))
    && leads texts slots factor size (index + 1) ts
