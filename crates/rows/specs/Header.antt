-- The words of a row's header: the numbers of words of the pending equations, of the pile and of the body, the number of bindings, the next unknown, then
-- the next child's number, low and high, and a mark.
use Rattle.std.specs.Prelude.{ℕ, ◌<◌, List, [], ◌∷◌}
use Rattle.rows.specs.declared.header.Header.{Header}

unfoldable pub header_of : Header → List ℕ
header_of h = h.pending ∷ h.pile ∷ h.body ∷ h.bindings ∷ h.next ∷ 0 ∷ 0 ∷ 0 ∷ []

-- each number is a word
pub record Small (h : Header) : Type 0 where
  pub pending : h.pending < 65536
  pub pile : h.pile < 65536
  pub body : h.body < 65536
  pub bindings : h.bindings < 65536
  pub next : h.next < 65536
