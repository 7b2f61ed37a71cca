-- The definition on its row: seed 0, two peers, size 1.
use Rattle.std.proofs.Common.{◌≡◌, [], ◌∷◌, codes, refl}
use Rattle.std.specs.Fmt.{digits}
use Rattle.dd_gen.specs.Made.{lines_of_make}

pub smallest : lines_of_make 0 2 1 ≡
    codes "{\"names\":[\"p0\",\"p1\"],\"op\":\"peers\"}"
    ∷ codes "{\"axioms\":[\"(implies A0 (or A1 C1))\"],\"into\":[{\"from\":\"p1\",\"source\":\"A1\",\"target\":\"A1\"}],\"onto\":[{\"from\":\"p1\",\"source\":\"A0\",\"target\":\"A0\"}],\"op\":\"put\",\"peer\":\"p0\"}"
    ∷ codes "{\"axioms\":[\"(implies B0 B1)\"],\"into\":[{\"from\":\"p0\",\"source\":\"A1\",\"target\":\"A1\"},{\"from\":\"p0\",\"source\":\"C1\",\"target\":\"C1\"}],\"onto\":[{\"from\":\"p0\",\"source\":\"A0\",\"target\":\"A0\"}],\"op\":\"put\",\"peer\":\"p1\"}"
    ∷ codes "{\"left\":\"A0\",\"op\":\"ask\",\"peer\":\"p0\",\"right\":\"(or A1 C1)\"}"
    ∷ codes "{\"left\":\"A0\",\"op\":\"ask\",\"peer\":\"p1\",\"right\":\"(or A1 C1)\"}"
    ∷ codes "{\"left\":\"A1\",\"op\":\"ask\",\"peer\":\"p0\",\"right\":\"A0\"}"
    ∷ codes "{\"left\":\"A1\",\"op\":\"ask\",\"peer\":\"p1\",\"right\":\"A0\"}"
    ∷ []
unfolding digits
smallest = refl
