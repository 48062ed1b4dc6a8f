-- The answer of a row in words: whether it is held.
use Prim.Native.Nat.{ℕ, ◌+◌, ◌-◌, ◌≤◌, ◌<◌}
use mathlib.Core.Path.{◌≡◌, refl, sym, ap, ◌∙◌}
use mathlib.Core.List.{List, [], ◌∷◌, append-nil}
use native.Mathlib.Omega.{arith}
use native.Mathlib.Nat.{add-zero}
use lib.ListN.{length, take}
use Rattle.std.proofs.Common.{Option, Some, None}
use borrow.Author.Tests.{le-leb, lt-leb}
use Rattle.room.specs.Room.{put, length-seg, put-nil}
use Rattle.room.specs.Layout.{HEADER}
use Rattle.terms.specs.Answers.{listed}
use Rattle.rows.specs.declared.header.Header.{Header}
use Rattle.rows.specs.First.{header_in}
use Rattle.results.specs.declared.ran.Record.{Record}
use Rattle.counters.specs.Counted.{noted}
use Rattle.answer_record.specs.Noting.{listed_by, answer_in, with_answers, fits, note_by, held_by}
use Rattle.answer_record.specs.RowAnswer.{pending_none, pile_none, one_answer}

single : (ws : List ℕ) → listed (ws ∷ []) ≡ ws
unfolding listed
single ws = append-nil ws

module _ (row : List ℕ) {h : Header} (e : h ≡ header_in (take 5 row)) (a : List ℕ) (r : Record) where
  abbrev Answers : Option Record → List ℕ → Type 0
  Answers n last = (n ≡ note_by (answer_in row) (length a) r) × (last ≡ held_by (answer_in row) a r)

  module _ (p : h.pending ≤ 0) (q : h.pile ≤ 0) (within : HEADER + h.body ≤ length row) where
    words_of-it : length (listed (listed_by row h.body ∷ [])) ≡ 1 + h.body
    unfolding listed_by
    words_of-it = ap length (single (listed_by row h.body)) ∙ omega (arith, length-seg row HEADER h.body within)

    pub too_long : length a - r.words < 1 + h.body → Answers None a
    unfolding note_by held_by fits
    too_long l = rw (one_answer row e p q, words_of-it, lt-leb (1 + h.body) (length a - r.words) l) (refl, refl)

    pub held : {last : List ℕ} → 1 + h.body ≤ length a - r.words → last ≡ put a r.words (listed_by row h.body) → Answers (Some (noted r (1 + h.body))) last
    unfolding note_by held_by fits with_answers
    held l w =
        let n = words_of-it in
        rw (one_answer row e p q, n, le-leb (1 + h.body) (length a - r.words) l) (refl, w ∙ ap (put a r.words) (sym (single (listed_by row h.body))))

  nothing : answer_in row ≡ [] → Answers (Some r) a
  unfolding note_by held_by fits with_answers listed
  nothing n = rw (n, le-leb 0 (length a - r.words) (omega arith), add-zero r.answers, add-zero r.words, put-nil) (refl, refl)

  pub pending_left : 0 < h.pending → Answers (Some r) a
  pending_left p = nothing (pending_none row e p)

  pub pile_left : 0 < h.pile → Answers (Some r) a
  pile_left p = nothing (pile_none row e p)
