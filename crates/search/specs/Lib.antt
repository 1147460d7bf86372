-- The root of the definitions. The public promise is `call`'s and leans on none of them: Lent reads a run of the code as one of the definition,
-- and Inner says what the private functions need and give.
pub mod Lent
pub mod Inner
