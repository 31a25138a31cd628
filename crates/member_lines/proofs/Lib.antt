-- The laws of the members' lines.
--     MemberLaws    their minimum
pub mod MemberLaws
