use Rattle.std.proofs.Common.{◌≡◌, ◌+◌, ◌<◌, ◌∷◌, drop, get_or, sym, subst, arith}
use Rattle.asm_tokens.specs.declared.token.Lexeme.{Lexeme}
use Rattle.asm_tokens.specs.Tokens.{lexemes_of}
use Rattle.asm_tokens.proofs.Following.{lexemes-none, lexemes-some, size-some}
use Rattle.asm_tokens.proofs.lexemes.next_lexeme.Goals as goal

pub returns-then-start-text-clause-first : goal.returns-then-start-text-clause-first
returns-then-start-text-clause-first c =
    let P : Lexeme → Type 0 =
    λ l. lexemes_of c.args.offset (drop c.args.offset c.args.text.now) ≡ l ∷ lexemes_of l.end (drop l.end c.args.text.now) in
    subst P (sym c.lexeme_at.ensures.value) (lexemes-some c.args.text.now c.args.offset c.skip_blanks-start.result
    c.skip_blanks-start.ensures.value c.if-start-text.true)

pub returns-then-start-text-clause-some : goal.returns-then-start-text-clause-some
returns-then-start-text-clause-some c =
    let P : Lexeme → Type 0 = λ l. l.start < l.end in
    subst P (sym c.lexeme_at.ensures.value)
    (omega (arith, size-some (get_or c.args.text.now c.skip_blanks-start.result 0) (drop (c.skip_blanks-start.result + 1) c.args.text.now)))

pub returns-else-start-text-clause-first : goal.returns-else-start-text-clause-first
returns-else-start-text-clause-first c =
    lexemes-none c.args.text.now c.args.offset c.skip_blanks-start.result c.skip_blanks-start.ensures.value c.if-start-text.false
