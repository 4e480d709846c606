-- The kinds of certificates that show that a system is confluent.

-- of an almost orthogonal system, and of a quasi-decreasing system with a measure
pub data Kind : Type 0 where
  ortho : Kind
  quasi : Kind
