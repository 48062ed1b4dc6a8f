-- The loop that notes places: some words are read, and the places found so far are written.
use Prim.Native.Nat.{ℕ, suc, ◌+◌, ◌-◌, ◌*◌, ◌<◌, ◌≤◌, ◌^◌}
use mathlib.Core.Path.{◌≡◌, refl, sym, ap, ◌∙◌}
use mathlib.Core.List.{List, [], ◌∷◌, ◌++◌, append_assoc}
use native.Mathlib.Omega.{arith}
use lib.ListN.{length, get_or, set, length-append}
use Rattle.room.specs.Room.{seg, put, length-put, put-nil, put-more, seg-zero, seg-cons}
use Rattle.room.specs.Parts.{apart_part, get_or-put}
use Rattle.terms.specs.Bounds.{edition_one, BYTES, MEMBER}
use Rattle.terms.specs.Kind.{takes}
use Rattle.choices.specs.MemberPlaces.{noted, noted_mark, noted-kernel, noted-out, noted_on, NoteParts}

pub record Noting (arities r₀ : List ℕ) (body first end to : ℕ) (r : List ℕ) (place due n : ℕ) : Type 0 where
  pub parts : NoteParts r₀ body first end to
  pub after : first ≤ place
  pub before : place ≤ end
  pub due_small : due ≤ 1 + 255 * place
  pub done : List ℕ
  pub count : length done ≡ n
  pub few : n ≤ place - first
  pub room : r ≡ put r₀ to done
  pub left : noted edition_one arities (seg r₀ (body + first) (end - first)) 0 first ≡ done ++ noted edition_one arities (seg r₀ (body + place) (end - place)) due place

pub none_noted : (arities : List ℕ) {r₀ : List ℕ} {body first end to : ℕ} → NoteParts r₀ body first end to → Noting arities r₀ body first end to r₀ first 0 0
none_noted arities {r₀} {to = to} P = record {
  parts = P;
  after = omega arith;
  before = P.from_first;
  due_small = omega arith;
  done = [];
  count = refl;
  few = omega arith;
  room = sym (put-nil r₀ to);
  left = refl;
}

-- the numbers, for `omega`
pub record Numbers (r₀ : List ℕ) (body first end to : ℕ) (r : List ℕ) (place due n : ℕ) : Type 0 where
  pub body_within : body + end ≤ length r₀
  pub to_within : to + (end + 1) ≤ length r₀
  pub words : end < 65536
  pub small : length r₀ < 2 ^ 32
  pub after : first ≤ place
  pub before : place ≤ end
  pub due_small : due ≤ 1 + 255 * place
  pub few : n ≤ place - first
  pub long : length r ≡ length r₀

module _ {arities r₀ : List ℕ} {body first end to : ℕ} {r : List ℕ} {place due n : ℕ} (S : Noting arities r₀ body first end to r place due n) where
  pub same_length : length r ≡ length r₀
  same_length = ap length S.room ∙ length-put r₀ to S.done

  pub numbers : Numbers r₀ body first end to r place due n
  numbers = record {
    body_within = S.parts.body_within;
    to_within = S.parts.to_within;
    words = S.parts.words;
    small = S.parts.small;
    after = S.after;
    before = S.before;
    due_small = S.due_small;
    few = S.few;
    long = same_length;
  }

  abbrev rest : List ℕ
  rest = seg r₀ (body + (place + 1)) (end - (place + 1))

  abbrev word : ℕ
  word = get_or r (body + place) 0

  noted-next : (v : ℕ) → set r (to + n) v ≡ put r₀ to (S.done ++ (v ∷ []))
  noted-next v = rw (S.room, ← S.count) (put-more r₀ to S.done v)

  length-next : (v : ℕ) → length (S.done ++ (v ∷ [])) ≡ n + 1
  length-next v = length-append S.done (v ∷ []) ∙ ap (λ (k : ℕ). k + 1) S.count

  -- what is left where the words stop
  pub note_last : end ≤ place → (n + 1 ≡ length (noted edition_one arities (seg r₀ (body + first) (end - first)) 0 first))
      × (set r (to + n) end ≡ put r₀ to (noted edition_one arities (seg r₀ (body + first) (end - first)) 0 first))
  note_last h =
      let z : end - place ≡ 0 = omega arith in
      let p : place ≡ end = omega (arith, S.before) in
      let e : noted edition_one arities (seg r₀ (body + first) (end - first)) 0 first ≡ S.done ++ (end ∷ []) = S.left ∙ rw (z, seg-zero, noted-out) (ap (λ (v : ℕ). S.done ++ (v ∷ [])) p) in
      rw e (sym (length-next end), noted-next end)

  module _ (h : place < end) where
    word_is : word ≡ get_or r₀ (body + place) 0
    word_is = rw S.room (get_or-put S.done r₀ (apart_part S.parts.apart (omega arith) (omega arith) (omega arith) (omega (arith, S.count, S.few, S.after))))

    next : seg r₀ (body + place) (end - place) ≡ word ∷ rest
    next =
        let many : end - place ≡ suc (end - (place + 1)) = omega arith in
        let at : body + place + 1 ≡ body + (place + 1) = omega arith in
        rw (many, word_is, seg-cons r₀ (body + place) (end - (place + 1)) (omega (arith, S.parts.body_within)), at)

    pub word_passed : 0 < due → (k : ℕ) → k ≡ takes edition_one arities word → k < BYTES → Noting arities r₀ body first end to r (place + 1) (due - 1 + k) n
    word_passed z k e f = record {
      parts = S.parts;
      after = omega (arith, S.after);
      before = omega arith;
      due_small = omega (arith, S.due_small);
      done = S.done;
      count = S.count;
      few = omega (arith, S.few);
      room = S.room;
      left = S.left ∙ ap (λ (l : List ℕ). S.done ++ l) (rw (next, e) (noted_on edition_one arities word rest due place z));
    }

    module _ (z : due ≡ 0) where
      pub kernel-noted : (word ≡ MEMBER → ⊥) → (n + 1 ≡ length (noted edition_one arities (seg r₀ (body + first) (end - first)) 0 first))
          × (set r (to + n) place ≡ put r₀ to (noted edition_one arities (seg r₀ (body + first) (end - first)) 0 first))
      kernel-noted d =
          let e : noted edition_one arities (seg r₀ (body + first) (end - first)) 0 first ≡ S.done ++ (place ∷ []) =
          S.left ∙ ap (λ (l : List ℕ). S.done ++ l) (rw (next, z) (noted-kernel edition_one arities word rest place d)) in
          rw e (sym (length-next place), noted-next place)

      pub mark_noted : word ≡ MEMBER → Noting arities r₀ body first end to (set r (to + n) place) (place + 1) 1 (n + 1)
      mark_noted o = record {
        parts = S.parts;
        after = omega (arith, S.after);
        before = omega arith;
        due_small = omega arith;
        done = S.done ++ (place ∷ []);
        count = length-next place;
        few = omega (arith, S.few, S.after);
        room = noted-next place;
        left = S.left ∙ ap (λ (l : List ℕ). S.done ++ l) (rw (next, z) (noted_mark edition_one arities word rest place o)) ∙ sym (append_assoc S.done (place ∷ []) (noted edition_one arities rest 1 (place + 1)));
      }
