-- What stands for one word, and whether it fits.
use Rattle.std.proofs.Common.{Option, Some, None}
use mathlib.Core.Path.{◌≡◌, sym, ◌∙◌}
use mathlib.Core.List.{List, [], ◌∷◌, append-nil}
use Prim.Native.Nat.{ℕ, ◌≤◌, ◌<◌}
use native.Mathlib.Omega.{arith}
use lib.ListN.{length, get_or, set}
use Rattle.room.specs.Room.{seg, put, Within, length-seg, seg-zero, seg-cons, put-nil, put_one}
use Rattle.room.specs.Replaced.{image, replaced, image_same, image_other, replaced-nil, replaced-cons}
use Rattle.replace.specs.Fitting.{fitting, told, fitting-all, fitting_none, told_of_le, told_of_lt}

module _ (l : List ℕ) (from x by m to capacity : ℕ) (within : Within l from 1) (by_within : Within l by m) where
  abbrev ws : List ℕ
  ws = seg l by m

  one : seg l from 1 ≡ get_or l from 0 ∷ []
  one = seg-cons l from 0 (omega arith) ∙ rw seg-zero

  abbrev Says : Option ℕ → List ℕ → Type 0
  Says a r = (a ≡ told capacity (replaced x ws (seg l from 1))) × (r ≡ put l to (fitting x ws capacity (seg l from 1)))

  -- its image, whatever it is
  whole : {out : List ℕ} → image x ws (get_or l from 0) ≡ out → replaced x ws (seg l from 1) ≡ out
  whole e = rw (one, replaced-cons, replaced-nil, append-nil) e

  fits : {out : List ℕ} → image x ws (get_or l from 0) ≡ out → length out ≤ capacity → Says (Some (length out)) (put l to out)
  fits e h =
      let w = whole e in
      (sym (rw w (told_of_le capacity _ h)), rw (fitting-all x ws capacity (seg l from 1) (rw w h), w))

  full : {out : List ℕ} → image x ws (get_or l from 0) ≡ out → capacity < length out → Says None l
  full e h =
      let w = whole e in
      (sym (rw w (told_of_lt capacity _ h)), rw (one, fitting_none x ws capacity (get_or l from 0) [] (rw e h), put-nil))

  many : length ws ≡ m
  many = length-seg l by m by_within

  pub same_fits : get_or l from 0 ≡ x → m ≤ capacity → Says (Some m) (put l to ws)
  same_fits e h = rw many at (fits (image_same x ws (get_or l from 0) e) (rw many h))

  pub same_full : get_or l from 0 ≡ x → capacity < m → Says None l
  same_full e h = full (image_same x ws (get_or l from 0) e) (rw many h)

  pub other_fits : (get_or l from 0 ≡ x → ⊥) → 1 ≤ capacity → Says (Some 1) (set l to (get_or l from 0))
  other_fits n h = rw put_one at (fits (image_other x ws (get_or l from 0) n) h)

  pub other_full : (get_or l from 0 ≡ x → ⊥) → capacity < 1 → Says None l
  other_full n h = full (image_other x ws (get_or l from 0) n) h
