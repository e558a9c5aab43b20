-- What a decoder and an encoder find says what a word means, and which word an instruction has.
use Rattle.std.proofs.Common.{◌≡◌, ◌≢◌, ◌↔◌, ℕ, ◌<◌, ◌^◌, Bool, true, false, bit_and, sym, ap, ap₂, ◌∙◌, subst, refl, slice_get, Option}
use Rattle.std.proofs.Common.{Some, None, cond}
use Rattle.std.proofs.lemmas.Bool.{both_ways}
use Rattle.insn_forms.specs.declared.line.Line.{Line}
use Rattle.insn_forms.specs.declared.number.Parts.{Parts}
use Rattle.insn_forms.specs.Fields.{list_of}
use Rattle.insn_forms.specs.Forms.{word_in}
use Rattle.insn_forms.specs.Tables.{Table, insn_in, fits_in, given, Means}
use Rattle.insn_forms.proofs.Tables.{IsTable, IsWordOf, means-word, word-means}

pub none_some : {A : Type 0} {x : A} → ◌≡◌ {A = Option A} None (Some x) → ⊥
none_some e = cc

pub some_is : {A : Type 0} {x y : A} → ◌≡◌ {A = Option A} (Some x) (Some y) → x ≡ y
some_is e = cc

module _ {O I : Type 0} (t : Table O I) where
  -- where no line matches the word, it means nothing
  pub no_place : (word : ℕ) → ((i : ℕ) (r : Line O) → slice_get t.lines i ≡ Some r → bit_and word r.mask ≡ r.value
      → ◌≡◌ {A = Option ℕ} None (Some i)) → (it : I) → (◌≡◌ {A = Option I} None (Some it)) ↔ Means t word it
  no_place word only it = (λ e. absurd (none_some e), λ m. absurd (none_some (only m.place m.line m.listed m.matches)))

  if_given : (b : Bool) (x : I) (it : I) → cond b (Some x) None ≡ Some it → (b ≡ true) × (x ≡ it)
  if_given true x it e = (refl, some_is e)
  if_given false x it e = absurd (none_some e)

  -- where the only place of a line that matches the word is `place`
  module _ (word place : ℕ) (only : (i : ℕ) (r : Line O) → slice_get t.lines i ≡ Some r → bit_and word r.mask ≡ r.value
      → ◌≡◌ {A = Option ℕ} (Some place) (Some i)) where
    pub no_line : None ≡ slice_get t.lines place → (it : I) → (◌≡◌ {A = Option I} None (Some it)) ↔ Means t word it
    no_line f it = (
      λ e. absurd (none_some e),
      λ m. absurd (none_some
          (f ∙ ap (slice_get t.lines) (some_is (only m.place m.line m.listed m.matches)) ∙ m.listed)),
    )

    the_line : (line : Line O) → Some line ≡ slice_get t.lines place → (it : I) → (m : Means t word it) → line ≡ m.line
    the_line line f it m = some_is (f ∙ ap (slice_get t.lines) (some_is (only m.place m.line m.listed m.matches)) ∙ m.listed)

    pub no_match : (line : Line O) → Some line ≡ slice_get t.lines place → (bit_and word line.mask ≡ line.value → ⊥) → (it : I)
        → (◌≡◌ {A = Option I} None (Some it)) ↔ Means t word it
    no_match line f never it = (
      λ e. absurd (none_some e),
      λ m. absurd (never (subst (λ (r : Line O). bit_and word r.mask ≡ r.value) (sym (the_line line f it m)) m.matches)),
    )

    pub match : word < 2 ^ 32 → (line : Line O) → Some line ≡ slice_get t.lines place → bit_and word line.mask ≡ line.value
        → (got : Option I) → got ≡ given t line.operation word → (it : I) → (got ≡ Some it) ↔ Means t word it
    match lt line f m got g it = (
      λ e. let p = if_given (fits_in t line.operation word) (insn_in t line.operation word) it (sym g ∙ e) in
          record { is_word = lt; place = place; line = line; listed = sym f; matches = m; fits = p.0; gives = sym p.1 },
      λ n. g ∙ ap (λ (r : Line O). given t r.operation word) (the_line line f it n)
          ∙ ap (λ b. cond b (Some (insn_in t n.line.operation word)) None) n.fits ∙ ap Some (sym n.gives),
    )

module _ {O I : Type 0} (t : Table O I) (parts : I → Option (Parts O)) (h : IsTable t parts) (it : I) where
  pub no_parts : None ≡ parts it → (w : ℕ) → (◌≡◌ {A = Option ℕ} None (Some w)) ↔ Means t w it
  no_parts e w = (λ n. absurd (none_some n), λ m. absurd (none_some (e ∙ (means-word t parts h w it m).has)))

  -- where its operation and numbers are these
  module _ (p : Parts O) (has : Some p ≡ parts it) where
    pub no_line_of : ((i : ℕ) (r : Line O) → slice_get t.lines i ≡ Some r → r.operation ≢ p.operation) → (w : ℕ)
        → (◌≡◌ {A = Option ℕ} None (Some w)) ↔ Means t w it
    no_line_of never w = (
      λ n. absurd (none_some n),
      λ m. let e = means-word t parts h w it m in
          absurd (never e.place e.line e.listed (e.same ∙ ap (λ (q : Parts O). q.operation) (some_is (sym e.has ∙ sym has)))),
    )

    -- and its line is this one
    module _ (i : ℕ) (line : Line O) (listed : slice_get t.lines i ≡ Some line) (same : line.operation ≡ p.operation) where
      word_there : (w : ℕ) → (e : IsWordOf t parts it w) → (word_in line.value (list_of line.fields) p.numbers ≡ Some w)
          × (fits_in t line.operation w ≡ true)
      word_there w e =
          let q = some_is (sym e.has ∙ sym has) in
          let k = h.own e.place i e.line line e.listed listed (e.same ∙ ap (λ (q : Parts O). q.operation) q ∙ sym same) in
          let r = some_is (sym e.listed ∙ ap (slice_get t.lines) k ∙ listed) in (
            sym (ap₂ (λ (x : Line O) (y : Parts O). word_in x.value (list_of x.fields) y.numbers) r q) ∙ e.says,
            ap (λ (x : Line O). fits_in t x.operation w) (sym r) ∙ e.fits,
          )

      pub no_word : None ≡ word_in line.value (list_of line.fields) p.numbers → (w : ℕ) → (◌≡◌ {A = Option ℕ} None (Some w)) ↔ Means t w it
      no_word e w = (λ n. absurd (none_some n), λ m. absurd (none_some (e ∙ (word_there w (means-word t parts h w it m)).0)))

      pub no_fit : (v : ℕ) → Some v ≡ word_in line.value (list_of line.fields) p.numbers → fits_in t line.operation v ≡ false → (w : ℕ)
          → (◌≡◌ {A = Option ℕ} None (Some w)) ↔ Means t w it
      no_fit v e f w = (
        λ n. absurd (none_some n),
        λ m. let d = word_there w (means-word t parts h w it m) in
            absurd (both_ways (fits_in t line.operation w) (ap (fits_in t line.operation) (sym (some_is (e ∙ d.0))) ∙ f) d.1),
      )

      pub word : (v : ℕ) → Some v ≡ word_in line.value (list_of line.fields) p.numbers → fits_in t line.operation v ≡ true → (w : ℕ)
          → (◌≡◌ {A = Option ℕ} (Some v) (Some w)) ↔ Means t w it
      word v e f w = (
        λ n. word-means t parts h w it (record {
          told = p;
          has = sym has;
          place = i;
          line = line;
          listed = listed;
          same = same;
          says = sym e
              ∙ n;
          fits = ap (fits_in t line.operation) (sym (some_is n)) ∙ f;
        }),
        λ m. e ∙ (word_there w (means-word t parts h w it m)).0,
      )
