-- The rows that the numbers give are those of the outer product.
use Rattle.std.proofs.Common.{◌≡◌, ℕ, zero, suc, ◌+◌, ◌*◌, ◌/◌, ◌%◌, ◌==◌, ◌<◌, ap, ap₂, ◌∙◌, sym, refl, arith, Bool, true, false}
use Rattle.std.proofs.Common.{if◌then◌else◌, ℤ, pos, List, [], ◌∷◌, ◌++◌, length, get_or, subst}
use Rattle.vector_elements.specs.declared.size.Size.{Size}
use Rattle.vector_elements.specs.Elements.{listed, each_element}
use Rattle.vector_elements.specs.Numbers.{bytes_in, wrapped}
use Rattle.vector_elements.proofs.Masks.{each_same}
use Rattle.za_array.specs.Array.{IsSquare, ArrayState}
use Rattle.za_array.specs.Tiles.{changed_tile}
use Rattle.outer_products.specs.declared.kind.MopaKind.{MopaKind}
use Rattle.outer_products.specs.OuterProducts.{source_size, sum_size, Source, source, sum_of, changed, outer_row}
use Rattle.outer_products.specs.Sources.{negated, elements_of, columns, pair_place, unpaired, pairs_of, number, four_of, dot_in_pairs}
use Rattle.outer_products.specs.Sources.{summed, row_of_sums}
use Rattle.outer_products.proofs.Numbers.{four_products}
use Rattle.outer_products.proofs.Active.{AreBytes, active_number, product_is, active_bytes}
use Rattle.outer_products.proofs.Widened.{read_number, read_pair}

listed_same : {A : Type 0} → (f g : ℕ → A) (n : ℕ) → ((i : ℕ) → i < n → f i ≡ g i) → listed f n ≡ listed g n
unfolding listed
listed_same f g zero same = refl
listed_same f g (suc n) same =
    ap (λ t. t ++ f n ∷ []) (listed_same f g n (λ i below. same i (omega arith)))
    ∙ ap (λ x. listed g n ++ x ∷ []) (same n (omega arith))

-- two changes that agree on each vector of the array
tile_same : (e tile : ℕ) (f g : ℕ → List ℕ → List ℕ) (za : List (List ℕ))
    → ((v : ℕ) → v < length za → f (v / e) (get_or za v []) ≡ g (v / e) (get_or za v []))
    → changed_tile e tile f za ≡ changed_tile e tile g za
unfolding changed_tile
tile_same e tile f g za same =
    listed_same _ _ (length za) (λ v below. ap (λ t. if v % e == tile then t else get_or za v []) (same v below))

-- the places of source elements and of rows
four_places : (halves : Bool) (size r k : ℕ) → k < 4 → r < size / bytes_in (sum_size halves)
    → 4 * r + k < size / bytes_in (source_size halves)
four_places true size r k four lt = omega (arith, four, lt)
four_places false size r k four lt = omega (arith, four, lt)

-- the places of numbers in pairs
paired_place : (halves : Bool) (size c k : ℕ) → size % 16 ≡ 0 → k < 4 → c < size / bytes_in (sum_size halves)
    → pair_place (columns (sum_size halves)) c k < size / bytes_in (source_size halves)
paired_place true size c k whole four lt = omega (arith, whole, four, lt)
paired_place false size c k whole four lt = omega (arith, whole, four, lt)

unpaired_place : (halves : Bool) (c k : ℕ) → k < 4
    → unpaired (columns (sum_size halves)) (pair_place (columns (sum_size halves)) c k) ≡ 4 * c + k
unpaired_place true c k four = omega (arith, four)
unpaired_place false c k four = omega (arith, four)

row_place : (halves : Bool) (size v : ℕ) → size % 16 ≡ 0 → v < size → v / bytes_in (sum_size halves) < size / bytes_in (sum_size halves)
row_place true size v whole lt = omega (arith, whole, lt)
row_place false size v whole lt = omega (arith, whole, lt)

same_count : (a b d i : ℕ) → a ≡ b → i < a / d → i < b / d
same_count a b d i e lt = subst (λ m. i < m / d) e lt

module _ (halves negative : Bool) (n m : Source) (nb : AreBytes n.vector) (mb : AreBytes m.vector) (ns ms : List ℤ) (size : ℕ) where
  -- both sources have so many bytes, and these are their numbers: those of the first are negative where asked for, and those of the
  -- second stand in pairs
  pub record AreReady : Type 0 where
    pub n_long : length n.vector ≡ size
    pub m_long : length m.vector ≡ size
    pub n_is : ns ≡ elements_of (source_size halves) n.signed negative (active_bytes (source_size halves) n nb)
    pub m_is : ms ≡ pairs_of (columns (sum_size halves)) (source_size halves) m.signed (active_bytes (source_size halves) m mb)
    pub whole : size % 16 ≡ 0

  n_number : AreReady → (r k : ℕ) → k < 4 → r < size / bytes_in (sum_size halves)
      → number ns (4 * r + k) ≡ negated negative (active_number (source_size halves) n (4 * r + k))
  n_number is r k four lt =
      ap (λ xs. number xs (4 * r + k)) is.n_is
      ∙ read_number (source_size halves) negative n nb (4 * r + k)
      (same_count _ _ (bytes_in (source_size halves)) _ (sym is.n_long) (four_places halves size r k four lt))

  m_number : AreReady → (c k : ℕ) → k < 4 → c < size / bytes_in (sum_size halves)
      → number ms (pair_place (columns (sum_size halves)) c k) ≡ active_number (source_size halves) m (4 * c + k)
  m_number is c k four lt =
      let count = columns (sum_size halves) in
      let e = source_size halves in
      let same : unpaired count (pair_place count c k) ≡ 4 * c + k = unpaired_place halves c k four in
      let inside : 4 * c + k < length m.vector / bytes_in e =
      same_count _ _ (bytes_in e) _ (sym is.m_long) (four_places halves size c k four lt) in
      ap (λ xs. number xs (pair_place count c k)) is.m_is
      ∙ read_pair e false m mb count (pair_place count c k)
      (same_count _ _ (bytes_in e) _ (sym is.m_long) (paired_place halves size c k is.whole four lt))
      (subst (λ j. j < length m.vector / bytes_in e) (sym same) inside)
      ∙ ap (active_number e m) same

  element_same : AreReady → (r c old : ℕ) → r < size / bytes_in (sum_size halves) → c < size / bytes_in (sum_size halves)
      → summed (sum_size halves) (dot_in_pairs (columns (sum_size halves)) (four_of ns r) ms) c old
      ≡ changed (sum_size halves) negative old (sum_of (source_size halves) n m r c)
  unfolding dot_in_pairs changed sum_of
  element_same is r c old row column =
      let e = source_size halves in
      let first : 4 * r ≡ 4 * r + 0 = omega arith in
      let n0 = ap (number ns) first ∙ n_number is r 0 (omega arith) row in
      let n1 = n_number is r 1 (omega arith) row in
      let n2 = n_number is r 2 (omega arith) row in
      let n3 = n_number is r 3 (omega arith) row in
      let m0 = m_number is c 0 (omega arith) column in
      let m1 = m_number is c 1 (omega arith) column in
      let m2 = m_number is c 2 (omega arith) column in
      let m3 = m_number is c 3 (omega arith) column in
      let p0 = product_is e n m (4 * r + 0) (4 * c + 0) in
      let p1 = product_is e n m (4 * r + 1) (4 * c + 1) in
      let p2 = product_is e n m (4 * r + 2) (4 * c + 2) in
      let p3 = product_is e n m (4 * r + 3) (4 * c + 3) in
      let all = four_products negative (pos old) (active_number e n (4 * r + 0)) (active_number e n (4 * r + 1))
      (active_number e n (4 * r + 2)) (active_number e n (4 * r + 3)) (active_number e m (4 * c + 0)) (active_number e m (4 * c + 1))
      (active_number e m (4 * c + 2)) (active_number e m (4 * c + 3)) in
      ap (wrapped (sum_size halves)) (cc (n0, n1, n2, n3, m0, m1, m2, m3, p0, p1, p2, p3, all))

  row_same : AreReady → (r : ℕ) (row : List ℕ) → r < size / bytes_in (sum_size halves) → length row ≡ size
      → row_of_sums (sum_size halves) ns ms r row
      ≡ each_element (bytes_in (sum_size halves)) row (λ c old. changed (sum_size halves) negative old
      (sum_of (source_size halves) n m r c))
  unfolding row_of_sums
  row_same is r row lt long =
      each_same _ row _ _ (λ c below old. element_same is r c old lt (same_count _ _ (bytes_in (sum_size halves)) c long below))

-- numbers of a source whose elements' size is known
pub ready : (e : Size) (halves : Bool) (s : Source) (bytes : AreBytes s.vector) (negative : Bool) (active : List ℕ) (xs : List ℤ)
    → e ≡ source_size halves
    → xs ≡ elements_of e s.signed negative active → active ≡ active_bytes e s bytes
    → xs ≡ elements_of (source_size halves) s.signed negative (active_bytes (source_size halves) s bytes)
ready e halves s bytes negative active xs same is from =
    is ∙ ap (elements_of e s.signed negative) from ∙ ap (λ size. elements_of size s.signed negative (active_bytes size s bytes)) same

-- the same in pairs
pub ready_pairs : (known halves : Bool) (s : Source) (bytes : AreBytes s.vector) (active : List ℕ) (xs : List ℤ) → known ≡ halves
    → xs ≡ pairs_of (columns (sum_size known)) (source_size known) s.signed active → active ≡ active_bytes (source_size known) s bytes
    → xs ≡ pairs_of (columns (sum_size halves)) (source_size halves) s.signed (active_bytes (source_size halves) s bytes)
ready_pairs known halves s bytes active xs same is from =
    is ∙ ap (pairs_of (columns (sum_size known)) (source_size known) s.signed) from
    ∙ ap (λ h. pairs_of (columns (sum_size h)) (source_size h) s.signed (active_bytes (source_size h) s bytes)) same

-- the array that the numbers give
pub array_is : (kind : MopaKind) (tile : ℕ) (pn pm zn zm : List ℕ) (nb : AreBytes zn) (mb : AreBytes zm) (size : ℕ)
    (ns ms : List ℤ) (sums : Size) (e t : ℕ) (old new : ArrayState)
    → new ≡ record old { vectors = changed_tile e t (row_of_sums sums ns ms) old.vectors }
    → sums ≡ sum_size kind.halves → e ≡ bytes_in sums → t ≡ tile → size % 16 ≡ 0 → IsSquare size old.vectors
    → AreReady kind.halves kind.subtract (source kind.n_signed pn zn) (source kind.m_signed pm zm) nb mb ns ms size
    → new ≡ record old { vectors = changed_tile (bytes_in (sum_size kind.halves)) tile (outer_row kind pn pm zn zm) old.vectors }
unfolding outer_row
array_is kind tile pn pm zn zm nb mb size ns ms sums e t old new is kinds bytes number whole square ready =
    is ∙ ap (λ (vs : List (List ℕ)). record old { vectors = vs })
    (ap₂ (λ d k. changed_tile d k (row_of_sums sums ns ms) old.vectors) bytes number
    ∙ ap (λ size. changed_tile (bytes_in size) tile (row_of_sums size ns ms) old.vectors) kinds
    ∙ tile_same (bytes_in (sum_size kind.halves)) tile _ _ old.vectors (λ v below.
    let inside : v < size = omega (arith, below, square.count) in
    row_same kind.halves kind.subtract _ _ nb mb ns ms size ready (v / bytes_in (sum_size kind.halves)) (get_or old.vectors v [])
    (row_place kind.halves size v whole inside) (square.long v inside)))
