-- Laws of writing: what one writer leaves and the next goes on from. Assumes nothing.
--     then            one text, and another behind it
--     wrote_none      nothing is written
--     wrote_length    writers keep a slice's length
--     wrote_counts    the next place is a count of the slice
--     wrote_whole     a text for which there is room stands at the front, whole
--     wrote_all       and the next place is its length
--     holds           a writer holds what its fields are left as
--     next            one text, and another behind it, by a writer's methods
--     ends            what a slice is left as once its writer is gone
use Rattle.std.proofs.Common.{◌≡◌, ℕ, suc, ◌+◌, ◌-◌, ◌<◌, ◌≤◌, min, max, List, [], ◌∷◌, ◌++◌, length, take, drop, set, sym, refl, ap, ◌∙◌, ap₂, append_assoc, append-nil, add-zero, add-suc, suc-add, arith, length-append, length-drop, take-append-drop, drop_of_length-le, length-take-le, take_all, drop-drop, take_at}
use native.Mathlib.Decide.{dec_le}
use lib.Seq.{sets, length-sets, set_out, take-nil, set-append_seam, append_snoc}
use Rattle.io.specs.Counts.{IsPrefixLen}
use Rattle.text.specs.declared.writers.Writer.{Writer}
use Rattle.text.specs.Wrote.{Written, written, writing, Wrote, wrote}

-- past the end nothing is stored
sets_out : (l : List ℕ) (i : ℕ) (vs : List ℕ) → length l ≤ i → sets l i vs ≡ l
sets_out l i [] h = refl
sets_out l i (v ∷ vs) h = rw (set_out l i v h) (sets_out l (suc i) vs (omega arith))

sets_append : (l : List ℕ) (i : ℕ) (xs ys : List ℕ) → sets l i (xs ++ ys) ≡ sets (sets l i xs) (i + length xs) ys
sets_append l i [] ys = rw add-zero
sets_append l i (x ∷ xs) ys = rw (add-suc, ← suc-add) (sets_append (set l i x) (suc i) xs ys)

sets_behind : (p l vs : List ℕ) → sets (p ++ l) (length p) vs ≡ p ++ (take (length l) vs ++ drop (length vs) l)
sets_behind p l [] = let none : take {A = ℕ} (length l) [] ≡ [] = take-nil (length l) in rw none
sets_behind p [] (v ∷ vs) = rw append-nil (sets_out p (length p) (v ∷ vs) (omega arith))
sets_behind p (x ∷ l) (v ∷ vs) =
    let next : suc (length p) ≡ length (p ++ (v ∷ [])) = rw length-append (omega arith) in
    rw (set-append_seam p x l v, ← append_snoc p v l, next) (sets_behind (p ++ (v ∷ [])) l vs ∙ append_assoc p (v ∷ []) (take (length l) vs ++ drop (length vs) l))

-- a text written is its bytes stored one by one
stored : (o : List ℕ) (at : ℕ) (s : List ℕ) → sets o at s ≡ take at o ++ (take (length o - at) s ++ drop (at + length s) o)
stored o at s = go (dec_le at (length o))
  where
    go : Dec (at ≤ length o) → sets o at s ≡ take at o ++ (take (length o - at) s ++ drop (at + length s) o)
    go (yes h) =
        rw (take-append-drop at o, length-take-le at o h, length-drop at o, drop-drop (length s) at o) at (sets_behind (take at o) (drop at o) s)
    go (no h) =
        let room : length o - at ≡ 0 = omega arith in
        rw (sets_out o at s (omega arith), take_all at o (omega arith), room, drop_of_length-le o {i = at + length s} (omega arith), append-nil o)

abbrev reach : (at n room : ℕ) → ℕ
reach at n room = max at (min (at + n) room)

wrote_bytes : (o : List ℕ) (at : ℕ) (s : List ℕ) {p : List ℕ} {r : ℕ} → Wrote o at s p r → p ≡ sets o at s
unfolding writing
wrote_bytes o at s v = ap (λ (w : Written). w.bytes) v ∙ sym (stored o at s)

wrote_next : (o : List ℕ) (at : ℕ) (s : List ℕ) {p : List ℕ} {r : ℕ} → Wrote o at s p r → r ≡ reach at (length s) (length o)
unfolding writing
wrote_next o at s v = ap (λ (w : Written). w.next) v

pub wrote_by : (o : List ℕ) (at : ℕ) (s : List ℕ) {p : List ℕ} {r : ℕ} → p ≡ sets o at s → r ≡ reach at (length s) (length o) → Wrote o at s p r
unfolding writing
wrote_by o at s b n = ap₂ written (b ∙ stored o at s) n

-- as much of a text as there is room for, from place `at` to `end`
pub wrote_part : (o : List ℕ) (at end : ℕ) (s : List ℕ) → end ≡ min (at + length s) (length o) → at ≤ end
    → Wrote o at s (take at o ++ (take (end - at) s ++ drop end o)) end
unfolding writing
wrote_part o at end s e h = go (dec_le (at + length s) (length o))
  where
    go : Dec (at + length s ≤ length o) → Wrote o at s (take at o ++ (take (end - at) s ++ drop end o)) end
    go (yes l) =
        let is : end ≡ at + length s = omega arith in
        rw (is, take_all (at + length s - at) s (omega arith), take_all (length o - at) s (omega arith)) (ap (written (take at o ++ (s ++ drop (at + length s) o))) (omega arith))
    go (no l) =
        let is : end ≡ length o = omega arith in
        rw (is, drop_of_length-le o {i = length o} (omega arith), drop_of_length-le o {i = at + length s} (omega arith)) (ap (written (take at o ++ (take (length o - at) s ++ []))) (omega arith))

-- past the end
pub wrote_past : (o : List ℕ) (at : ℕ) (s : List ℕ) → min (at + length s) (length o) < at → Wrote o at s o at
wrote_past o at s h = wrote_by o at s (sym (sets_out o at s (omega arith))) (omega arith)

pub wrote_length : (o : List ℕ) (at : ℕ) (s : List ℕ) {p : List ℕ} {r : ℕ} → Wrote o at s p r → length p ≡ length o
wrote_length o at s v = ap length (wrote_bytes o at s v) ∙ length-sets o at s

pub wrote_none : (o : List ℕ) (at : ℕ) → Wrote o at [] o at
wrote_none o at = wrote_by o at [] refl (omega arith)

pub then : (o : List ℕ) (at : ℕ) (s t : List ℕ) {p q : List ℕ} {r m : ℕ} → Wrote o at s p r → Wrote p r t q m → Wrote o at (s ++ t) q m
then o at s t {p} {q} {r} {m} v w =
    let same = wrote_length o at s v in
    let e = wrote_next o at s v in
    let f = wrote_next p r t w in
    let front = ap (λ (l : List ℕ). sets l (at + length s) t) (wrote_bytes o at s v) in
    wrote_by o at (s ++ t)
    (wrote_bytes p r t w ∙ reached same e (dec_le (at + length s) (length o)) ∙ front ∙ sym (sets_append o at s t))
    (rw length-append (omega arith))
  where
    -- the next place is where the first text ends, or both are past the end
    reached : length p ≡ length o → r ≡ reach at (length s) (length o) → Dec (at + length s ≤ length o) → sets p r t ≡ sets p (at + length s) t
    reached same e (yes h) = ap (λ (k : ℕ). sets p k t) (omega arith)
    reached same e (no h) = sets_out p r t (omega arith) ∙ sym (sets_out p (at + length s) t (omega arith))

pub wrote_counts : (o : List ℕ) (at : ℕ) (s : List ℕ) {p : List ℕ} {r : ℕ} → Wrote o at s p r → at ≤ length o → IsPrefixLen r p
wrote_counts o at s {p} {r} v h =
    let e = wrote_next o at s v in
    let same = wrote_length o at s v in
    let within : r ≤ length p = omega arith in
    (within, sym (length-take-le r p within))

pub wrote_all : (o s : List ℕ) {p : List ℕ} {r : ℕ} → Wrote o 0 s p r → length s ≤ length o → r ≡ length s
wrote_all o s v h = let e = wrote_next o 0 s v in omega arith

pub wrote_whole : (o s : List ℕ) {p : List ℕ} {r : ℕ} → Wrote o 0 s p r → length s ≤ length o → take r p ≡ s
wrote_whole o s {p} {r} v h =
    let bytes : p ≡ take (length o) s ++ drop (length s) o = wrote_bytes o 0 s v ∙ sets_behind [] o s in
    rw (bytes, take_all (length o) s h) (take_at s (drop (length s) o) r (sym (wrote_all o s v h)))

-- ---- writers

-- a writer, by what its slice and its place are left as
pub holds : (w : Writer) (s : List ℕ) {p : List ℕ} {r : ℕ} → Wrote w.out.now w.at s p r → record w { out = record w.out { now = p }; at = r } ≡ wrote w s
holds w s l = ap (λ (left : Written). record w { out = record w.out { now = left.bytes }; at = left.next }) l

pub writes_none : (w : Writer) → w ≡ wrote w []
writes_none w = holds w [] (wrote_none w.out.now w.at)

-- one text, and another behind it
pub next : (w v u : Writer) (s t : List ℕ) → v ≡ wrote w s → u ≡ wrote v t → u ≡ wrote w (s ++ t)
next w v u s t e f = f ∙ (ap (λ (v : Writer). wrote v t) e ∙ holds w (s ++ t) (then w.out.now w.at s t refl refl))

-- what a slice is left as once its writer, which still had it, is gone
pub ends : (w u : Writer) (s : List ℕ) {out : List ℕ} → u ≡ wrote w s → (w.out.ghost_name ≡ u.out.ghost_name → out ≡ u.out.now)
    → Wrote w.out.now w.at s out u.at
ends w u s e back =
    ap (λ (l : List ℕ). written l u.at) (back (sym (ap (λ (v : Writer). v.out.ghost_name) e))) ∙ ap (λ (v : Writer). written v.out.now v.at) e
