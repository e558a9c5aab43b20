-- The pages that are made of a list.
use Rattle.std.proofs.Common.{◌≡◌, ℕ, zero, suc, ◌+◌, ◌*◌, ◌/◌, ◌%◌, ◌^◌, ◌<◌, List, [], ◌∷◌, ◌++◌, length, get_or, take, refl}
use Rattle.std.proofs.Common.{ap, sym, ◌∙◌, subst, arith, All, None, option_map, ne_of_lt}
use Rattle.std.specs.Prelude.{map}
use Rattle.std.specs.FinMap.{get, entries}
use Rattle.std.proofs.lemmas.List.{take_more, get_or-take, length-take-le}
use Rattle.std.proofs.lemmas.List.Edits.{insert_end}
use Rattle.std.proofs.lemmas.Option.{slice_get-get_or}
use Rattle.paged_memory.specs.declared.page.Page.{Page}
use Rattle.paged_memory.specs.declared.page_list.PageImage.{PageImage}
use Rattle.paged_memory.specs.Memory.{bytes_from}
use Rattle.paged_memory.specs.Pages.{page_entry, page_at, mem_of, perm_of, memory_of, IsFine}
use Rattle.paged_memory.specs.PageList.{IsPageImage, IsPageList, HasPage, image_entry, page_made}
use Rattle.paged_memory.proofs.Bytes.{get-perm_of}
use Rattle.paged_memory.proofs.Order.{page_at-none, entries-perm_of}
use Rattle.paged_memory.proofs.Insert.{fine_insert}
use Rattle.paged_memory.proofs.Shown.{page_bytes}

pub made_at : (list : List PageImage) (k : ℕ) (d : Page) (e : PageImage) → k < length list
    → get_or (map page_made list) k d ≡ page_made (get_or list k e)
made_at [] k d e l = absurd (omega arith)
made_at (p ∷ list) zero d e l = refl
made_at (p ∷ list) (suc k) d e l = made_at list k d e (omega arith)

pub length-made : (list : List PageImage) → length (map page_made list) ≡ length list
length-made [] = refl
length-made (p ∷ list) = ap suc (length-made list)

made_more : (list : List PageImage) (p : PageImage) → map page_made (list ++ p ∷ []) ≡ map page_made list ++ page_made p ∷ []
made_more [] p = refl
made_more (q ∷ list) p = ap (λ ps. page_made q ∷ ps) (made_more list p)

-- the pages of one more of the list
pub made_of-more : (list : List PageImage) (i : ℕ) (p : PageImage) → i < length list → p ≡ get_or list i p
    → map page_made (take (i + 1) list) ≡ map page_made (take i list) ++ page_made p ∷ []
made_of-more list i p l is =
    ap (map page_made) (take_more list i p l ∙ ap (λ x. take i list ++ x ∷ []) (sym is)) ∙ made_more (take i list) p

less_pages : (a b : ℕ) → a % 4096 ≡ 0 → b % 4096 ≡ 0 → a < b → a / 4096 < b / 4096
less_pages a b h k l = omega arith

-- all those before one have a lower number
made_below : (list : List PageImage) (i : ℕ) (p : PageImage) → IsPageList list → i < length list → p ≡ get_or list i p
    → (k : ℕ) (d : Page) → k < i → (get_or (map page_made (take i list)) k d).number < (page_made p).number
made_below list i p good l is k d m =
    let long : length (take i list) ≡ i = length-take-le i list (omega arith) in
    let inside : k < length (take i list) = rw long m in
    let first : PageImage = get_or list k p in
    let order : first.address < (get_or list i p).address =
    good.ascending k i first (get_or list i p) m (slice_get-get_or list k p (omega arith)) (slice_get-get_or list i p l) in
    let lower : first.address / 4096 < (get_or list i p).address / 4096 =
    less_pages first.address (get_or list i p).address (good.each k p (omega arith)).aligned (good.each i p l).aligned order in
    rw (made_at (take i list) k d p inside, get_or-take i list k p m)
    (rw (← is) at lower)

pub fine_more : (list : List PageImage) (i : ℕ) (p : PageImage) → IsPageList list → i < length list → p ≡ get_or list i p
    → p.address < 2 ^ 64 → IsFine (map page_made (take i list)) → IsFine (map page_made (take i list) ++ page_made p ∷ [])
fine_more list i p good l is low fine =
    let long : length (map page_made (take i list)) ≡ i = length-made (take i list) ∙ length-take-le i list (omega arith) in
    let good_page : IsPageImage p = rw (← is) at (good.each i p l) in
    let below : (k : ℕ) (d : Page) → k < length (map page_made (take i list))
    → (get_or (map page_made (take i list)) k d).number < p.address / 4096 =
    λ k d m. made_below list i p good l is k d (rw long at m) in
    let none : page_at (map page_made (take i list)) (p.address / 4096) ≡ None =
    page_at-none (map page_made (take i list)) (p.address / 4096) (λ k d m. ne_of_lt (below k d m)) in
    let missing : get (perm_of (map page_made (take i list))) (p.address / 4096) ≡ None =
    get-perm_of (map page_made (take i list)) (p.address / 4096) ∙ ap (option_map (λ x. x.flags)) none in
    subst IsFine (insert_end (map page_made (take i list)) (page_made p))
    (fine_insert (map page_made (take i list)) (length (map page_made (take i list))) (page_made p) fine (omega arith) below
    (λ k d m n. absurd (omega arith)) good_page.full good_page.flags (omega arith) missing)

made_entries : (list : List PageImage) → map page_entry (map page_made list) ≡ map image_entry list
made_entries [] = refl
made_entries (p ∷ list) = ap (λ es. image_entry p ∷ es) (made_entries list)

pub entries_made : (list : List PageImage) (ps : List Page) → IsFine ps → ps ≡ map page_made list
    → entries (perm_of ps) ≡ map image_entry list
entries_made list ps fine is = entries-perm_of ps fine.sorted ∙ ap (map page_entry) is ∙ made_entries list

pub bytes_made : (list : List PageImage) (ps : List Page) → IsPageList list → IsFine ps → ps ≡ map page_made list
    → All (HasPage (memory_of ps)) list
bytes_made list ps good fine is k e l =
    let inside : k < length ps = rw (is, length-made list) l in
    let at : get_or ps k (page_made e) ≡ page_made (get_or list k e) =
    ap (λ qs. get_or qs k (page_made e)) is ∙ made_at list k (page_made e) e l in
    let aligned : (get_or list k e).address % 4096 ≡ 0 = (good.each k e l).aligned in
    let place : (get_or list k e).address / 4096 * 4096 ≡ (get_or list k e).address = omega arith in
    let shown : bytes_from (mem_of ps) ((get_or list k e).address / 4096 * 4096) 4096 ≡ (get_or list k e).bytes.items =
    rw at at (page_bytes ps k (page_made e) fine inside) in
    rw place at shown
