-- Laws of the replies.
pub mod Laws
