-- The pieces of a text are what they are said to be, and no other list is.
use Prim.Native.Nat.{ℕ, suc, ◌<◌}
use mathlib.Core.Bool.{Bool, true, false, ◌&&◌}
use mathlib.Core.List.{List, [], ◌∷◌, ◌++◌, append_assoc, append-nil, flatten}
use mathlib.Core.Path.{◌≡◌, refl, ap, sym, ◌∙◌}
use native.Mathlib.Omega.{arith}
use lib.Dec.{eqb}
use lib.ListN.{length, get_or}
use borrow.Author.Tests.{eqb-true}
use Rattle.ring.specs.Lists.{Each, none, more, Steps, no_member, one_member, step}
use Rattle.text.specs.Bytes.{lf, letter_r}
use Rattle.lines.specs.Lines.{with_byte}
use Rattle.report.specs.Pieces.{starts_r, ends_piece, pieces}
use Rattle.report.specs.Damage.{alone}
use Rattle.report.specs.PiecesAre.{EndsLine, NoneBehind, IsEmpty, OnePiece, Parted, ArePieces, PiecesAre}

-- ---- the pieces, one behind the other, are the text

join-byte : (ends : Bool) (b : ℕ) (ps : List (List ℕ)) → flatten (with_byte ends b ps) ≡ b ∷ flatten ps
unfolding with_byte flatten
join-byte true b ps = refl
join-byte false b [] = refl
join-byte false b (p ∷ ps) = refl

pub join-pieces : (t : List ℕ) → flatten (pieces t) ≡ t
unfolding pieces flatten
join-pieces [] = refl
join-pieces (b ∷ t) = join-byte (ends_piece b t) b (pieces t) ∙ ap (λ (l : List ℕ). b ∷ l) (join-pieces t)

-- ---- no line behind the first starts with R, byte by byte

unfoldable pub Uncut : List ℕ → Type 0
Uncut [] = Unit {0}
Uncut (b ∷ t) = (ends_piece b t ≡ false) × Uncut t

pub cut-means : (b : ℕ) (t : List ℕ) → ends_piece b t ≡ true → (b ≡ lf) × ((rest : List ℕ) × (t ≡ letter_r ∷ rest))
unfolding ends_piece starts_r
cut-means b [] e = elim (eqb b lf) as (λ v. (v && false) ≡ true → (b ≡ lf) × ((rest : List ℕ) × ([] ≡ letter_r ∷ rest))) [ true ↦ λ h. absurd (cc) | false ↦ λ h. absurd (cc) ] e
cut-means b (c ∷ t) e = go (eqb b lf) (eqb-true b lf) e
  where
    go : (v : Bool) → (v ≡ true → b ≡ lf) → (v && eqb c letter_r) ≡ true → (b ≡ lf) × ((rest : List ℕ) × (c ∷ t ≡ letter_r ∷ rest))
    go true f h = (f refl, (t, ap (λ (x : ℕ). x ∷ t) (eqb-true c letter_r h)))
    go false f h = absurd (cc)

none-uncut : (p : List ℕ) → NoneBehind p → Uncut p
unfolding NoneBehind Uncut
none-uncut [] h = tt
none-uncut (b ∷ t) h = (go (ends_piece b t) (cut-means b t), none-uncut t (λ front rest e. h (b ∷ front) rest (ap (λ (l : List ℕ). b ∷ l) e)))
  where
    go : (v : Bool) → (v ≡ true → (b ≡ lf) × ((rest : List ℕ) × (t ≡ letter_r ∷ rest))) → v ≡ false
    go false f = refl
    go true f = absurd (let m = f refl in h [] m.1.0 (cc (m.0, m.1.1)))

pub uncut-none : (p : List ℕ) → Uncut p → NoneBehind p
unfolding NoneBehind Uncut ends_piece starts_r
uncut-none [] u [] rest e = cc
uncut-none [] u (x ∷ front) rest e = cc
uncut-none (b ∷ []) u [] rest e = cc
uncut-none (b ∷ c ∷ t) u [] rest e =
    let m : b ≡ lf = cc in
    let n : c ≡ letter_r = cc in
    let i : (eqb b lf && eqb c letter_r) ≡ true = rw (m, n) in
    cc (i, u.0)
uncut-none (b ∷ t) u (x ∷ front) rest e =
    let m : t ≡ front ++ lf ∷ letter_r ∷ rest = cc in
    uncut-none t u.1 front rest m

pub starts-cut : (b : ℕ) (t : List ℕ) → ends_piece b t ≡ true → starts_r t ≡ true
unfolding ends_piece
starts-cut b t = go (eqb b lf)
  where
    go : (v : Bool) → (v && starts_r t) ≡ true → starts_r t ≡ true
    go true h = h
    go false h = absurd (cc)

-- ---- such a text is one piece

uncut-alone : (t : List ℕ) → Uncut t → pieces t ≡ alone t
unfolding pieces alone Uncut with_byte
uncut-alone [] u = refl
uncut-alone (b ∷ []) u = rw u.0 refl
uncut-alone (b ∷ c ∷ t) u = rw (u.0, uncut-alone (c ∷ t) u.1) refl

pub one-piece : (t : List ℕ) → NoneBehind t → pieces t ≡ alone t
one-piece t h = uncut-alone t (none-uncut t h)

-- ---- two texts

some-piece : (b : ℕ) (t : List ℕ) → (p : List ℕ) × (ps : List (List ℕ)) × (pieces (b ∷ t) ≡ p ∷ ps)
unfolding pieces with_byte
some-piece b t = go (ends_piece b t) (pieces t)
  where
    go : (v : Bool) (ps : List (List ℕ)) → (p : List ℕ) × (qs : List (List ℕ)) × (with_byte v b ps ≡ p ∷ qs)
    go true ps = (b ∷ [], ps, refl)
    go false [] = (b ∷ [], [], refl)
    go false (p ∷ ps) = (b ∷ p, ps, refl)

byte-over : (v : Bool) (b : ℕ) (p : List ℕ) (ps qs : List (List ℕ)) → with_byte v b ((p ∷ ps) ++ qs) ≡ with_byte v b (p ∷ ps) ++ qs
unfolding with_byte
byte-over true b p ps qs = refl
byte-over false b p ps qs = refl

-- behind a text whose pieces are the first ones
byte-then : (v : Bool) (b c : ℕ) (t : List ℕ) (qs : List (List ℕ)) → with_byte v b (pieces (c ∷ t) ++ qs) ≡ with_byte v b (pieces (c ∷ t)) ++ qs
byte-then v b c t qs =
    let (p, ps, e) = some-piece c t in rw e (byte-over v b p ps qs)

-- the first ends a line, and the second starts with R
line-then : (front b : List ℕ) → starts_r b ≡ true → pieces ((front ++ lf ∷ []) ++ b) ≡ pieces (front ++ lf ∷ []) ++ pieces b
unfolding pieces ends_piece with_byte starts_r
line-then [] b h = rw h refl
line-then (x ∷ []) b h =
    rw (line-then [] b h) (byte-then (ends_piece x (lf ∷ [])) x lf [] (pieces b))
line-then (x ∷ y ∷ front) b h =
    rw (line-then (y ∷ front) b h) (byte-then (ends_piece x (y ∷ (front ++ lf ∷ []))) x y (front ++ lf ∷ []) (pieces b))

-- nothing is on one side, or a line ends there and one that starts with R begins
pub data Meet (a b : List ℕ) : Type 0 where
  nothing-before : IsEmpty a → Meet a b
  nothing-behind : IsEmpty b → Meet a b
  line-between : EndsLine a → starts_r b ≡ true → Meet a b

pub pieces-append : (a b : List ℕ) → Meet a b → pieces (a ++ b) ≡ pieces a ++ pieces b
unfolding IsEmpty EndsLine pieces
pieces-append a b (nothing-before e) = rw e refl
pieces-append a b (nothing-behind e) = rw (e, append-nil a) (sym (append-nil (pieces a)))
pieces-append a b (line-between e s) = let (front, i) = e in rw i (line-then front b s)

-- ---- what is put together starts as its first part does

pub starts-as : (p : List ℕ) (ps : List (List ℕ)) → (IsEmpty p → ⊥) → starts_r (flatten (p ∷ ps)) ≡ starts_r p
unfolding flatten IsEmpty starts_r
starts-as [] ps h = absurd (h refl)
starts-as (b ∷ p) ps h = refl

pub ends-append : (a p : List ℕ) → EndsLine p → EndsLine (a ++ p)
unfolding EndsLine
ends-append a p (front, e) = (a ++ front, rw (e, append_assoc a front (lf ∷ [])) refl)

-- ---- no other list is what the pieces are

pub alone-filled : (p : List ℕ) → (IsEmpty p → ⊥) → alone p ≡ p ∷ []
unfolding alone IsEmpty
alone-filled [] h = absurd (h refl)
alone-filled (b ∷ p) h = refl

only : (ps : List (List ℕ)) → Each OnePiece ps → Steps Parted ps → pieces (flatten ps) ≡ ps
unfolding flatten pieces
only [] each s = refl
only (p ∷ []) (more o each) one_member =
    rw (append-nil p) (one-piece p o.none_behind ∙ alone-filled p o.filled)
only (p ∷ q ∷ ps) (more o (more n each)) (step r s) =
    pieces-append p (flatten (q ∷ ps)) (line-between r.ends (starts-as q ps n.filled ∙ r.starts))
    ∙ rw (only (q ∷ ps) (more n each) s, one-piece p o.none_behind, alone-filled p o.filled) refl

pub only-pieces : (t : List ℕ) (ps : List (List ℕ)) → ArePieces t ps → ps ≡ pieces t
only-pieces t ps a = sym (only ps a.each a.parted) ∙ ap pieces a.together

-- ---- the pieces are such a list

uncut-join : (b : ℕ) (p t : List ℕ) → ends_piece b t ≡ false → starts_r t ≡ starts_r p → Uncut p → Uncut (b ∷ p)
unfolding Uncut ends_piece
uncut-join b p t h e u = (rw e at h, u)

none-join : (b : ℕ) (p t : List ℕ) → ends_piece b t ≡ false → starts_r t ≡ starts_r p → NoneBehind p → NoneBehind (b ∷ p)
none-join b p t h e n = uncut-none (b ∷ p) (uncut-join b p t h e (none-uncut p n))

one-byte : (b : ℕ) → OnePiece (b ∷ [])
unfolding IsEmpty NoneBehind
one-byte b = record { filled = λ e. cc; none_behind = go }
  where
    go : (front rest : List ℕ) → b ∷ [] ≡ front ++ lf ∷ letter_r ∷ rest → ⊥
    go [] rest e = cc
    go (x ∷ []) rest e = cc
    go (x ∷ y ∷ front) rest e = cc

longer : (b : ℕ) (p : List ℕ) (ps : List (List ℕ)) → Steps Parted (p ∷ ps) → Steps Parted ((b ∷ p) ∷ ps)
longer b p [] s = one_member
longer b p (q ∷ ps) (step r s) = step (record { ends = ends-append (b ∷ []) p r.ends; starts = r.starts }) s

module _ (b : ℕ) (t : List ℕ) where
  byte-are : (ends : Bool) → ends_piece b t ≡ ends → (ps : List (List ℕ)) → flatten ps ≡ t → Each OnePiece ps → Steps Parted ps
      → Each OnePiece (with_byte ends b ps) × Steps Parted (with_byte ends b ps)
  unfolding with_byte EndsLine IsEmpty
  byte-are true h [] j each s = (more (one-byte b) none, one_member)
  byte-are true h (p ∷ ps) j (more o each) s =
      let m = cut-means b t h in
      let first : starts_r p ≡ true = sym (starts-as p ps o.filled) ∙ ap starts_r j ∙ starts-cut b t h in
      (more (one-byte b) (more o each), step (record { ends = ([], ap (λ (x : ℕ). x ∷ []) m.0); starts = first }) s)
  byte-are false h [] j each s = (more (one-byte b) none, one_member)
  byte-are false h (p ∷ ps) j (more o each) s =
      let e : starts_r t ≡ starts_r p = sym (ap starts_r j) ∙ starts-as p ps o.filled in
      (more (record { filled = λ i. cc; none_behind = none-join b p t h e o.none_behind }) each, longer b p ps s)

stand : (t : List ℕ) → Each OnePiece (pieces t) × Steps Parted (pieces t)
unfolding pieces
stand [] = (none, no_member)
stand (b ∷ t) =
    let r = stand t in
    byte-are b t (ends_piece b t) refl (pieces t) (join-pieces t) r.0 r.1

pub pieces-are : (t : List ℕ) → ArePieces t (pieces t)
pieces-are t = let r = stand t in record { together = join-pieces t; each = r.0; parted = r.1 }

-- ---- a text whose bytes, place by place, start no second line with R

pub uncut-by-place : (p : List ℕ) → ((k : ℕ) → suc k < length p → get_or p k 0 ≡ lf → get_or p (suc k) 0 ≡ letter_r → ⊥) → NoneBehind p
unfolding NoneBehind
uncut-by-place p h [] rest e = h 0 (rw e (omega arith)) (rw e refl) (rw e refl)
uncut-by-place [] h (x ∷ front) rest e = cc
uncut-by-place (b ∷ p) h (x ∷ front) rest e =
    uncut-by-place p (λ k l. h (suc k) (omega arith)) front rest (cc)

pub pieces-are-so : PiecesAre
pieces-are-so t ps = (λ e. rw (← e) at (pieces-are t), only-pieces t ps)
