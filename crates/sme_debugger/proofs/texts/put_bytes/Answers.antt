use Rattle.std.proofs.Common.{◌≡◌, ◌+◌, ◌≤◌, ◌%◌, ◌^◌, drop, ap, arith, ◌∙◌}
use Rattle.std.proofs.lemmas.Grind.{common_steps}
use Rattle.hex.specs.Hex.{encode_lower}
use Rattle.edge_io.proofs.Gathering.{as_text, sofar_start, sofar_more, sofar_stop, sofar_end}
use Rattle.sme_debugger.proofs.Bytes.{digits_next, part_got, none_left}
use Rattle.sme_debugger.proofs.texts.put_bytes.Goals as goal

pub bytes-init : goal.bytes-init
bytes-init g c = record { within = omega arith; sofar = λ bytes read. sofar_start _ _ }

pub bytes-preserved : goal.bytes-preserved
bytes-preserved g c = record {
  within = omega arith;
  sofar = λ bytes read.
      let h = c.bytes.invariant in
      let n = c.min-count.result in
      let inside : c.bytes.done + n ≤ c.args.size = omega arith in
      sofar_more (digits_next bytes c.bytes.done n) (h.sofar bytes read)
      (as_text
      (ap encode_lower (part_got c.read.result c.args.pages.now.memory c.args.address c.args.size c.bytes.done n _ _ bytes
      c.read.new.into c.read.ensures.ok c.read.ensures.refused read inside
      (ap (λ d. (c.args.address + d) % 2 ^ 64) c.from.ensures) (grind (arith, common_steps))))
      c.in_ok-put_digits.ensures);
}

pub returns-in_err-put_digits : goal.returns-in_err-put_digits
returns-in_err-put_digits g c = λ bytes read.
    let h = c.bytes.invariant in
    let n = c.min-count.result in
    let inside : c.bytes.done + n ≤ c.args.size = omega arith in
    sofar_stop _ (digits_next bytes c.bytes.done n) (h.sofar bytes read)
    (as_text
    (ap encode_lower (part_got c.read.result c.args.pages.now.memory c.args.address c.args.size c.bytes.done n _ _ bytes
    c.read.new.into c.read.ensures.ok c.read.ensures.refused read inside
    (ap (λ d. (c.args.address + d) % 2 ^ 64) c.from.ensures) (grind (arith, common_steps))))
    c.in_err-put_digits.ensures)
    c.from_residual.ensures.0

pub returns : goal.returns
returns g c = λ bytes read.
    let h = c.bytes.invariant in
    let within = h.within in
    let all : c.bytes.done ≡ c.args.size = omega (arith, within, c.bytes-test.false) in
    sofar_end
    (ap (λ n. encode_lower (drop n bytes)) all
    ∙ none_left c.args.pages.now.memory c.args.address c.args.size bytes read) (h.sofar bytes read)
