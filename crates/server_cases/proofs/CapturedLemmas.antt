-- What has captured six values may go to another thread, where each of them may.
use mir.Syntax.{Sym}
use mathlib.Core.List.{[], ◌∷◌}
use denote.RattleType.{RattleType}
use denote.Param.Send.{IsSend}
use denote.Param.SendFields.{as_row_send, declared_send}
use denote.Struct.Field.{row_field}
use denote.Struct.Tuple.{TupleAt, type_at}

pub captured_six : (name : Sym) (A B C D E F : RattleType) → IsSend A → IsSend B → IsSend C → IsSend D → IsSend E
    → IsSend F → IsSend (TupleAt name (A ∷ B ∷ C ∷ D ∷ E ∷ F ∷ []))
captured_six name A B C D E F a b c d e f =
    declared_send (type_at name (A ∷ B ∷ C ∷ D ∷ E ∷ F ∷ [])) (
      as_row_send (row_field A) a,
      (
        as_row_send (row_field B) b,
        (
          as_row_send (row_field C) c,
          (as_row_send (row_field D) d, (as_row_send (row_field E) e, (as_row_send (row_field F) f, tt))),
        ),
      ),
    )
