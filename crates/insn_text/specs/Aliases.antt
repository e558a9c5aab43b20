-- The texts of an operation: its own, and those of its aliases, which are read and never printed.
-- Source: DDI 0487, C6.2, the pages of the aliases: which fields are fixed, and at which numbers.
use Rattle.std.specs.Prelude.{ℕ, ◌==◌, Bool, true, false, List, [], ◌∷◌, codes, if◌then◌else◌}
use Rattle.sm_types.specs.declared.insn.AddSub.TheVariants as sum
use Rattle.sm_types.specs.declared.insn.Logical.TheVariants as logical
use Rattle.sm_types.specs.declared.insn.MoveOp.TheVariants as move
use Rattle.sm_types.specs.declared.insn.BitfieldOp.TheVariants as bits
use Rattle.sm_types.specs.declared.insn.BranchRegisterOp.TheVariants as jump
use Rattle.sm_types.specs.declared.insn.SelectOp.TheVariants as select
use Rattle.sm_types.specs.declared.insn.TwoSourceOp.TheVariants as two
use Rattle.insn_forms.specs.declared.field.Field.{Field}
use Rattle.a64_table.specs.declared.fields.TheConstants.{HINT, IMM12, IMM6, IMMS, RA, RD, RM, RN, SF, SH}
use Rattle.a64_table.specs.declared.fields.TheConstants.{SHIFT}
use Rattle.a64_table.specs.declared.operation.Operation.{Operation}
use Rattle.a64_table.specs.declared.operation.Operation.TheVariants.{G1, G2, G3, G4, G5, G6, G7, G11, G13}
use Rattle.a64_table.specs.declared.operation.Operation.TheVariants.{G16, G17, G22}
use Rattle.a64_table.specs.declared.operation.MultiplyOp.TheVariants as multiply
use Rattle.a64_table.specs.declared.operation.SystemOp.TheVariants as call
use Rattle.insn_text.specs.Mnemonics.{mnemonic_of}
use Rattle.insn_text.specs.Operands.{words_of, last_register, frames_of, Way, Own, Opposed, ShiftedLeft}
use Rattle.insn_text.specs.Operands.{Moved}

-- a field that a text fixes at a number
pub record Fixed : Type 0 where
  pub field : Field
  pub number : ℕ

abbrev pub at : Field → ℕ → Fixed
at f number = record { field = f; number = number }

-- a mnemonic, the fields that it fixes, the words that stand beside the others, where they and the operands
-- stand, and how numbers are written
pub record Naming : Type 0 where
  pub mnemonic : List ℕ
  pub fixed : List Fixed
  pub words : List (List ℕ)
  pub frames : List (List ℕ)
  pub way : Way

abbrev pub printed_naming : Operation → (Field → ℕ) → (Field → Bool) → Naming
printed_naming o n set =
    record {
      mnemonic = mnemonic_of o n;
      fixed = [];
      words = words_of o n set;
      frames = frames_of o;
      way =
          Own;
    }

-- an alias that writes numbers as the fields have them
abbrev alias : List ℕ → List Fixed → List (List ℕ) → List (List ℕ) → Naming
alias mnemonic fixed words frames =
    record { mnemonic = mnemonic; fixed = fixed; words = words; frames = frames; way = Own }

-- one that writes them otherwise, with no words beside them
abbrev alias_by : Way → List ℕ → List Fixed → List ℕ → Naming
alias_by way mnemonic fixed frame =
    record { mnemonic = mnemonic; fixed = fixed; words = []; frames = frame ∷ []; way = way }

-- two operands, the last one shifted or not
abbrev shifted_last : List (List ℕ)
shifted_last = codes "o,o" ∷ codes "o,o,oo" ∷ []

-- two operands, the last one extended
abbrev extended_last : List (List ℕ)
extended_last = codes "o,o,o" ∷ codes "o,o,oo" ∷ codes "o,o,w" ∷ codes "o,o,wo" ∷ []

abbrev stack : (Field → ℕ) → List (List ℕ)
stack n = last_register (n SF == 1) true ∷ []

abbrev last_bit : Bool → ℕ
last_bit wide = if wide then 63 else 31

-- the aliases of an operation
unfoldable pub aliases_of : Operation → (Field → ℕ) → (Field → Bool) → List Naming
aliases_of (G1 sum.Subs) n set =
    alias (codes "cmp") (at RD 31 ∷ []) (words_of (G1 sum.Subs) n set) (codes "o,o" ∷ codes "o,o,ww" ∷ [])
    ∷ []
aliases_of (G1 sum.Adds) n set =
    alias (codes "cmn") (at RD 31 ∷ []) (words_of (G1 sum.Adds) n set) (codes "o,o" ∷ codes "o,o,ww" ∷ [])
    ∷ []
aliases_of (G1 sum.Add) n set =
    alias (codes "mov") (at RD 31 ∷ at IMM12 0 ∷ at SH 0 ∷ []) (stack n) (codes "w,o" ∷ [])
    ∷ alias (codes "mov") (at RN 31 ∷ at IMM12 0 ∷ at SH 0 ∷ []) (stack n) (codes "o,w" ∷ []) ∷ []
aliases_of (G2 sum.Subs) n set = alias (codes "cmp") (at RD 31 ∷ []) [] shifted_last ∷ []
aliases_of (G2 sum.Adds) n set = alias (codes "cmn") (at RD 31 ∷ []) [] shifted_last ∷ []
aliases_of (G2 sum.Sub) n set = alias (codes "neg") (at RN 31 ∷ []) [] shifted_last ∷ []
aliases_of (G3 logical.Ands false) n set = alias (codes "tst") (at RD 31 ∷ []) [] shifted_last ∷ []
aliases_of (G3 logical.Orr true) n set = alias (codes "mvn") (at RN 31 ∷ []) [] shifted_last ∷ []
aliases_of (G3 logical.Orr false) n set =
    alias (codes "mov") (at RN 31 ∷ at SHIFT 0 ∷ at IMM6 0 ∷ []) [] (codes "o,o" ∷ []) ∷ []
aliases_of (G4 sum.Subs) n set =
    alias (codes "cmp") (at RD 31 ∷ []) (words_of (G4 sum.Subs) n set) extended_last ∷ []
aliases_of (G4 sum.Adds) n set =
    alias (codes "cmn") (at RD 31 ∷ []) (words_of (G4 sum.Adds) n set) extended_last ∷ []
aliases_of (G5 logical.Ands) n set = alias (codes "tst") (at RD 31 ∷ []) [] (codes "o,o" ∷ []) ∷ []
aliases_of (G5 logical.Orr) n set = alias_by Moved (codes "mov") (at RN 31 ∷ []) (codes "o,o") ∷ []
aliases_of (G6 move.Movz) n set = alias_by Moved (codes "mov") [] (codes "o,o") ∷ []
aliases_of (G6 move.Movn) n set = alias_by Moved (codes "mov") [] (codes "o,o") ∷ []
aliases_of (G7 bits.Ubfm wide) n set =
    alias_by ShiftedLeft (codes "lsl") [] (codes "o,o,o")
    ∷ alias (codes "lsr") (at IMMS (last_bit wide) ∷ []) [] (codes "o,o,o" ∷ []) ∷ []
aliases_of (G7 bits.Sbfm wide) n set =
    alias (codes "asr") (at IMMS (last_bit wide) ∷ []) [] (codes "o,o,o" ∷ []) ∷ []
aliases_of (G11 jump.Ret) n set = alias (codes "ret") (at RN 30 ∷ []) [] ([] ∷ []) ∷ []
aliases_of (G13 select.Csinc) n set =
    alias_by Opposed (codes "cset") (at RN 31 ∷ at RM 31 ∷ []) (codes "o,o") ∷ []
aliases_of (G16 two.Lslv) n set = alias (codes "lsl") [] [] (codes "o,o,o" ∷ []) ∷ []
aliases_of (G16 two.Lsrv) n set = alias (codes "lsr") [] [] (codes "o,o,o" ∷ []) ∷ []
aliases_of (G16 two.Asrv) n set = alias (codes "asr") [] [] (codes "o,o,o" ∷ []) ∷ []
aliases_of (G17 multiply.Madd) n set = alias (codes "mul") (at RA 31 ∷ []) [] (codes "o,o,o" ∷ []) ∷ []
aliases_of (G22 call.Hint) n set = alias (codes "nop") (at HINT 0 ∷ []) [] ([] ∷ []) ∷ []
aliases_of operation n set = []
