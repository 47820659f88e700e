-- What an image is (REFERENCE: a picture), the pixel at a place, and what reading it answers.
pub mod Image
pub mod Reading
