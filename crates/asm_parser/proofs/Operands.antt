-- The tokens of an instruction, one after another, and what they say.
use Rattle.std.proofs.Common.{◌≡◌, ℕ, suc, ◌+◌, ◌-◌, ◌<◌, List, [], ◌∷◌, ◌++◌, Option, Ok, Err, take, map, slice_get, sym, ap, ◌∙◌, arith}
use Rattle.std.proofs.Common.{append_assoc}
use Rattle.std.specs.Prelude.{option_map}
use Rattle.asm_tokens.specs.declared.token.Lexeme.{Lexeme}
use Rattle.asm_tokens.specs.declared.token.Token.{Token}
use Rattle.asm_operands.specs.declared.operands.Target.{Target}
use Rattle.asm_operands.specs.Operands as operands
use Rattle.asm_operands.specs.Operands.{operands_said}
use Rattle.asm_operands.proofs.OperandCounts.{few_operands}
use Rattle.asm_parser.specs.declared.parse_fault.ParseFault.TheVariants.{Syntax}
use Rattle.asm_parser.specs.Statements.{Codes, Instruction}
use Rattle.asm_parser.specs.Lines.{target_at, instruction_or_fault, instruction_says}
use Rattle.asm_parser.specs.Told.{located, lexemes_from, said_from}
use Rattle.asm_parser.proofs.Saying.{First}

abbrev pub tokens_of : List Lexeme → List Token
tokens_of ls = map (λ l. l.token) ls

module _ (text : List ℕ) (from i : ℕ) (most : ℕ) where
  abbrev others : List Token
  others = take (most - i) (tokens_of (lexemes_from text from))

  pub tokens-more : (old new whole : List Token) (l : Lexeme) → i < most → First text from l → old ++ others ≡ whole → new ≡ old
      ++ (l.token ∷ [])
      → new ++ take (most - (i + 1)) (tokens_of (lexemes_from text l.end)) ≡ whole
  tokens-more old new whole l lt first so_far push =
      let e : suc (most - (i + 1)) ≡ most - i = omega arith in
      let rest : List Token = take (most - (i + 1)) (tokens_of (lexemes_from text l.end)) in
      ap (λ (ts : List Token). ts ++ rest) push ∙ append_assoc old (l.token ∷ []) rest
      ∙ ap (λ n. old ++ take n (tokens_of (l ∷ lexemes_from text l.end))) e
      ∙ ap (λ (ls : List Lexeme). old ++ take (most - i) (tokens_of ls)) (sym first) ∙ so_far

-- ---- what the tokens say

module _ (line text : List ℕ) (at name column : ℕ) where
  abbrev ls : List Lexeme
  ls = lexemes_from text at

  all-say : (said : operands.OperandsSaid) → said ≡ operands_said name (tokens_of ls)
      → said_from (instruction_says line name column) text at ≡ located ls (instruction_or_fault line column ls said)
  unfolding said_from instruction_says
  all-say said is = ap (λ o. located ls (instruction_or_fault line column ls o)) (sym is)

  first-say : (ts : List Token) (said : operands.OperandsSaid) → ts ≡ take 24 (tokens_of ls) → said ≡ operands_said name ts
      → said ≡ operands_said name (tokens_of ls)
  first-say ts said first is = is ∙ ap (operands_said name) first ∙ few_operands name (tokens_of ls)

  pub all-ok : (word : ℕ) (target : Option Target) → operands.Says word target ≡ operands_said name (tokens_of ls)
      → said_from (instruction_says line name column) text at ≡ Ok (Codes (Instruction word (target_at line ls target)) column)
  unfolding located
  all-ok word target is = all-say (operands.Says word target) is

  pub instruction-ok : (ts : List Token) (word : ℕ) (target : Option Target) → ts ≡ take 24 (tokens_of ls)
      → operands.Says word target ≡ operands_said name ts
      → said_from (instruction_says line name column) text at ≡ Ok (Codes (Instruction word (target_at line ls target)) column)
  instruction-ok ts word target first is = all-ok word target (first-say ts (operands.Says word target) first is)

  pub instruction-err : (ts : List Token) (f : operands.Fault) → ts ≡ take 24 (tokens_of ls) → operands.Fails f ≡ operands_said name ts
      → said_from (instruction_says line name column) text at
      ≡ Err (Syntax (option_map (λ (l : Lexeme). l.start) (slice_get ls f.index)) f.kind)
  unfolding located
  instruction-err ts f first is = all-say (operands.Fails f) (first-say ts (operands.Fails f) first is)
