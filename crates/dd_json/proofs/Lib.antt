pub mod MemberCounts
